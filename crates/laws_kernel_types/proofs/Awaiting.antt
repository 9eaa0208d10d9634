-- Awaits are typed, and the variables that take their values.
use Rattle.std.proofs.Common.{◌≡◌, refl, sym, ◌∙◌, subst, ℕ, List, [], ◌∷◌, Option, Some, None, Result, Ok}
use Rattle.std.specs.Prelude.{⊤}
use Rattle.ceu_base.specs.declared.kinds.Ty.TheVariants as ty
use Rattle.ceu_base.specs.declared.kinds.Pos.{Pos}
use Rattle.ceu_tree.specs.declared.source.Call.{Call}
use Rattle.ceu_tree.specs.declared.source.Exp.{Exp}
use Rattle.ceu_tree.specs.declared.source.Target.{Target}
use Rattle.ceu_tree.specs.declared.source.Target.TheVariants as target
use Rattle.ceu_tree.specs.declared.source.Await.{Await}
use Rattle.ceu_tree.specs.declared.source.Await.TheVariants as await
use Rattle.ceu_tree.specs.declared.kernel.Kernel.{Kernel}
use Rattle.ceu_tree.specs.declared.kernel.Loc.{Loc}
use Rattle.ceu_tree.specs.declared.kernel.KArm.{KArm'}
use Rattle.ceu_tree.specs.declared.kernel.KLoop.TheVariants as turns
use Rattle.ceu_tree.specs.declared.kernel.KStmt as kernel
use Rattle.ceu_tree.specs.declared.kernel.KStmt.{KStmt}
use Rattle.ceu_tree.specs.Leaf.{code_at}
use Rattle.ceu_tree.specs.Proper.{Aim, LoopAim, Where, port_ty, event_at}
use Rattle.ceu_scopes.specs.declared.known.Role.TheVariants as role
use Rattle.ceu_scopes.specs.declared.known.Scopes.{Scopes}
use Rattle.ceu_scopes.specs.declared.walk.Walk.{Walk}
use Rattle.ceu_scopes.specs.Walk.{Broken, ◌>>=◌}
use Rattle.ceu_scopes.specs.Rules.{named}
use Rattle.ceu_scopes.specs.Names.{exp_walked, exps_walked, if_exp_walked, target_walked, await_walked, call_walked}
use Rattle.ceu_types.specs.declared.typing.Types.{Types}
use Rattle.ceu_types.specs.declared.found.Found.{Found}
use Rattle.ceu_types.specs.Uses.{use_type}
use Rattle.ceu_types.specs.Expressions.{condition}
use Rattle.ceu_types.specs.Statements.{call_found, target_found, target_type, await_found, await_type}
use Rattle.ceu_expand.specs.declared.draft.Draft.{Draft}
use Rattle.ceu_expand.specs.Draft.{begun, hidden, opened, block_of, around_block}
use Rattle.ceu_expand.specs.Lists.{each, gathered}
use Rattle.ceu_expand.specs.Uses.{use_number}
use Rattle.ceu_expand.specs.Uses as uses
use Rattle.ceu_expand.specs.Expressions.{exp_passed, exp_written}
use Rattle.ceu_expand.specs.Parts.{simple, nothing_in, await_written, target_passed, target_awaited, broken_if, awaited_and_asked, awaited_until, code_awaited, awaited}
use Rattle.laws_kernel_shape.proofs.Frames.{frame_used, frame_exp, frame_each, frame_target}
use Rattle.laws_kernel_shape.proofs.Beside.{same_type}
use Rattle.laws_kernel_shape.proofs.Held.{around_parts}
use Rattle.laws_kernel_types.specs.Times.{TargetTimed, AwaitTimed}
use Rattle.laws_kernel_types.specs.Typed.{ArgsGiven, MaybeTakes, event_ty, StmtTyped, BlockTyped}
use Rattle.laws_kernel_types.proofs.Noting.{none_step, hidden_step}
use Rattle.laws_kernel_types.proofs.Passing.{condition_step, call_step, target_step}
use Rattle.laws_kernel_types.proofs.Giving.{condition_ok, time_ok, literal_ok}
use Rattle.laws_kernel_types.proofs.Arguments.{call_given}
use Rattle.laws_kernel_types.proofs.Naming.{then_ok, ok_is, goes_then, named_ok, named_goes}
use Rattle.laws_kernel_types.proofs.Walking.{calm_same, calm_hidden, exp_goes, exps_go, target_goes}
use Rattle.laws_kernel_types.proofs.Using.{input_here, event_here, code_here}
use Rattle.laws_kernel_types.proofs.Running.{Step, Run, of_goes, step_then, calm_step, last_run, at_run, block_step, block_run, around_step}
use Rattle.laws_kernel_types.proofs.Holding.{holds_placed, holds_opened, holds_block, if_typed}
use Rattle.laws_kernel_types.proofs.Leaves.{PartIf, Part, part_then, placed_part, simple_part, parts_of, begun_parts, hidden_parts, on_ty, on_code}

module _ (s : Scopes) (t : Types) (numbers : List ℕ) (K : Kernel) (code : Option ℕ) where
  weaker : (Q R : Type 0) {w v : Walk} {f g : Found} {d e : Draft} → (Q → R) → PartIf s t numbers K code R w f d v g e → PartIf s t numbers K code Q w f d v g e
  weaker Q R f p = record { step = p.step; holds = λ q. p.holds (f q) }

  -- ---- targets

  await_typed : (p : Pos) (into : Option Loc) (x : Target) → TargetTimed x → (place : Where) (aims : List Aim) (n : ℕ) (w v : Walk) (f : Found) (d : Draft) → target_walked x w ≡ Ok v → MaybeTakes (target_type s x f.names) into →
      Run s t numbers K code place w f d v (target_found s x f) (target_passed x d) → StmtTyped K code aims n (await_written s t p into x d)
  unfolding StmtTyped await_written target_found target_passed target_type
  await_typed p into (target.Ext x) timed place aims n w v f d h q run =
      let k = input_here s numbers K code x w v d (named_ok s numbers K code role.Input x w v h) run.now run.ends in
      on_ty (port_ty K (use_number s d) K.inputs) k.decl.ty (λ u. MaybeTakes u into) k.so (subst (λ u. MaybeTakes u into) (same_type s f.names d.uses run.level ∙ k.typed) q)
  await_typed p into (target.Event x) timed place aims n w v f d h q run =
      let k = event_here s numbers K code x w v d (named_ok s numbers K code role.Event x w v h) run.now run.ends in
      on_ty (event_ty code (event_at K (use_number s d) K.events)) k.decl.ty (λ u. MaybeTakes u into) k.so (subst (λ u. MaybeTakes u into) (same_type s f.names d.uses run.level ∙ k.typed) q)
  await_typed p into (target.Time us) timed place aims n w v f d h q run = (literal_ok p us timed, q)
  await_typed p into (target.TimeExp e u) timed place aims n w v f d h q run = (time_ok s t place e u f d (at_run s t numbers K code place run), q)

  pub target_part : (p : Pos) (into : Option Loc) (x : Target) → TargetTimed x → (w v : Walk) (f : Found) (d : Draft) → target_walked x w ≡ Ok v →
      PartIf s t numbers K code (MaybeTakes (target_type s x f.names) into) w f d v (target_found s x f) (target_awaited s t p into x d)
  unfolding target_awaited
  target_part p into x timed w v f d h =
      let d' = begun d in
      placed_part s t numbers K code (MaybeTakes (target_type s x f.names) into) p (await_written s t p into x d') w v f (target_found s x f) d (target_passed x d')
      (of_goes s t numbers K code (target_step s t x f d') (target_goes s numbers K code x w v d' h))
      (parts_of d' (target_passed x d') (frame_target x d') ∙ begun_parts d)
      (λ q place aims run. await_typed p into x timed place aims d.node w v f d' h q run)

  -- ---- an await until a condition holds

  break_block : (aims : List Aim) (loop : ℕ) (p : Pos) (c : Draft) → BlockTyped K code aims (block_of 0 (simple p (kernel.Break loop)) c)
  unfolding StmtTyped
  break_block aims loop p c =
      let start = opened 0 c in
      holds_block K code aims 0 (simple p (kernel.Break loop)) c (holds_placed K code aims start.node p (kernel.Break loop) start (begun start) (begun_parts start) tt (holds_opened K code aims 0 c))

  pub empty_block : (aims : List Aim) (c : Draft) → BlockTyped K code aims (block_of 0 nothing_in c)
  empty_block aims c = holds_block K code aims 0 nothing_in c (holds_opened K code aims 0 c)

  break_step : (p : Pos) (loop : ℕ) (w : Walk) (f : Found) (c : Draft) → Step s t numbers K code w f c w f (around_block 0 (simple p (kernel.Break loop)) c)
  break_step p loop w f c =
      let start = opened 0 c in
      block_step s t numbers K code 0 (simple p (kernel.Break loop)) w w f f c
      (around_step s t numbers K code start.node p (kernel.Break loop) w w f f start (begun start) (calm_step s t numbers K code w f f (begun start) (begun start) (none_step s t f (begun start)) (calm_same (begun start))))

  pub empty_step : (w : Walk) (f : Found) (c : Draft) → Step s t numbers K code w f c w f (around_block 0 nothing_in c)
  empty_step w f c = block_step s t numbers K code 0 nothing_in w w f f c (calm_step s t numbers K code w f f (opened 0 c) (opened 0 c) (none_step s t f (opened 0 c)) (calm_same (opened 0 c)))

  broken_part : (loop : ℕ) (p : Pos) (c : Exp) (w v : Walk) (f : Found) (d : Draft) → exp_walked c w ≡ Ok v → Part s t numbers K code w f d v (condition s c f) (broken_if s t loop p c d)
  unfolding broken_if StmtTyped
  broken_part loop p c w v f d h =
      let d' = begun d in
      let g = condition s c f in
      let after = exp_passed c d' in
      let break = simple p (kernel.Break loop) in
      let behind = around_block 0 break after in
      let last = around_block 0 nothing_in behind in
      let arm = KArm' (exp_written s t c d') (block_of 0 break after) in
      placed_part s t numbers K code ⊤ p (kernel.If (arm ∷ []) (block_of 0 nothing_in behind)) w v f g d last
      (step_then s t numbers K code (of_goes s t numbers K code (condition_step s t c f d') (exp_goes s numbers K code c w v d' h))
      (step_then s t numbers K code (break_step p loop v g after) (empty_step v g behind)))
      (around_parts 0 nothing_in behind ∙ around_parts 0 break after ∙ parts_of d' after (frame_exp c d') ∙ begun_parts d)
      (λ q place aims run.
      if_typed K code aims d.node (arm ∷ []) (block_of 0 nothing_in behind) ((condition_ok s t place c f d' (at_run s t numbers K code place run), break_block aims loop p after), tt) (empty_block aims behind))

  until_part : (p : Pos) (into : Option Loc) (x : Target) (c : Exp) → TargetTimed x → (w v : Walk) (f : Found) (d : Draft) → target_walked x w >>= if_exp_walked (Some c) ≡ Ok v →
      PartIf s t numbers K code (MaybeTakes (target_type s x f.names) into) w f d v (condition s c (target_found s x f)) (awaited_until s t p into x c d)
  unfolding awaited_until StmtTyped
  until_part p into x c timed w v f d h =
      let Q = MaybeTakes (target_type s x f.names) into in
      let d' = begun d in
      let k = then_ok (target_walked x w) (if_exp_walked (Some c)) v h in
      let body = awaited_and_asked s t d.node p into x c in
      let start = opened 0 d' in
      let f1 = target_found s x f in
      let middle = target_awaited s t p into x start in
      let g = condition s c f1 in
      let inner = part_then s t numbers K code (target_part p into x timed w k.0 f start k.1) (weaker Q ⊤ (λ q. tt) (broken_part d.node p c k.0 v f1 middle k.2)) in
      placed_part s t numbers K code Q p (kernel.Loop turns.Free (block_of 0 body d')) w v f g d (around_block 0 body d')
      (block_step s t numbers K code 0 body w v f g d' inner.step) (around_parts 0 body d' ∙ begun_parts d)
      (λ q place aims run.
      let in_loop = LoopAim d.node ∷ aims in
      (tt, holds_block K code in_loop 0 body d' (inner.holds q place in_loop (block_run s t numbers K code place 0 body w v f g d' inner.step run) (holds_opened K code in_loop 0 d'))))

  -- ---- code

  code_part : (p : Pos) (into : Option Loc) (c : Call) (w v : Walk) (f : Found) (d : Draft) → call_walked c w ≡ Ok v → PartIf s t numbers K code (MaybeTakes (use_type s f.names) into) w f d v (call_found s c f) (code_awaited s t p into c d)
  unfolding code_awaited StmtTyped
  code_part p into c w v f d h =
      let d' = begun d in
      let start = hidden 1 d' in
      let inside = uses.used start in
      let last = each exp_passed c.args inside in
      let g = call_found s c f in
      let k = then_ok (named role.Code c.code w) (exps_walked c.args) v h in
      let name = named_ok s numbers K code role.Code c.code w k.0 k.1 in
      let rest = exps_go s numbers K code c.args k.0 v inside k.2 in
      let hide = calm_step s t numbers K code w f f d' start (hidden_step s t 1 f d') (calm_hidden 1 d') in
      let call = of_goes s t numbers K code (call_step s t c f start) (goes_then s numbers K code (named_goes s numbers K code role.Code c.code w k.0 start k.1) rest) in
      let es = gathered (exp_written s t) exp_passed c.args inside in
      placed_part s t numbers K code (MaybeTakes (use_type s f.names) into) p (kernel.AwaitCode (use_number s start) es d.slot into) w v f g d last (step_then s t numbers K code hide call)
      (parts_of start last (frame_each exp_passed frame_exp c.args inside ∙ frame_used start) ∙ hidden_parts 1 d' ∙ begun_parts d)
      (λ q place aims run.
      let run' = last_run s t numbers K code place hide call run in
      let found = code_here s numbers K code c.code w k.0 start name run'.now (rest.ends run'.ends) in
      let is = found.is.so in
      on_code (code_at (use_number s start) K.codes) is.code (λ k. ArgsGiven k.params es × MaybeTakes k.result into) is.there (
        call_given s t place c f start (at_run s t numbers K code place run') found.place found.listed is.code.params is.params,
        subst (λ u. MaybeTakes u into) (same_type s f.names start.uses run'.level ∙ found.is.typed ∙ sym is.result) q,
      ))

  -- ---- awaits

  moved : (Q : Type 0) (w v u : Walk) (f g : Found) (d e : Draft) → (x : Result Walk Broken) → x ≡ Ok v → x ≡ Ok u → PartIf s t numbers K code Q w f d v g e → PartIf s t numbers K code Q w f d u g e
  moved Q w v u f g d e x i k p = subst (λ u. PartIf s t numbers K code Q w f d u g e) (ok_is v u x i k) p

  pub await_part : (p : Pos) (into : Option Loc) (a : Await) → AwaitTimed a → (w v : Walk) (f : Found) (d : Draft) → await_walked a w ≡ Ok v →
      PartIf s t numbers K code (MaybeTakes (await_type s a f.names) into) w f d v (await_found s a f) (awaited s t p into a d)
  unfolding await_found awaited await_type StmtTyped
  await_part p into await.Forever timed w v f d h =
      let Q = MaybeTakes ty.None into in moved Q w w v f f d (simple p kernel.Forever d) (Ok w) refl h (simple_part s t numbers K code Q p kernel.Forever w f d (λ q aims. tt))
  await_part p into (await.Code c) timed w v f d h = code_part p into c w v f d h
  await_part p into (await.On x None) timed w v f d h =
      let k = then_ok (target_walked x w) (if_exp_walked None) v h in
      moved (MaybeTakes (target_type s x f.names) into) w k.0 v f (target_found s x f) d (target_awaited s t p into x d) (Ok k.0) refl k.2 (target_part p into x timed w k.0 f d k.1)
  await_part p into (await.On x (Some c)) timed w v f d h = until_part p into x c timed w v f d h
