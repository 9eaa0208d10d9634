-- Statements without blocks of the text's own have what they need around them.
use Rattle.std.proofs.Common.{◌≡◌, refl, sym, ap, ◌∙◌, ℕ, List, [], ◌∷◌, Option, Some, None, Bool, true, false}
use Rattle.std.specs.Prelude.{IsTrue, ◌==◌, ◌||◌, if◌then◌else◌}
use Rattle.std.specs.List.{list_any}
use Rattle.std.proofs.lemmas.Bool.Decides.{Decides-eqb}
use Rattle.ceu_base.specs.declared.kinds.Ty.{Ty}
use Rattle.ceu_base.specs.declared.kinds.Pos.{Pos}
use Rattle.ceu_base.specs.declared.kinds.Rule.TheVariants.{T4}
use Rattle.ceu_tree.specs.declared.source.Ident.{Ident}
use Rattle.ceu_tree.specs.declared.source.Call.{Call}
use Rattle.ceu_tree.specs.declared.source.Spawn.{Spawn}
use Rattle.ceu_tree.specs.declared.source.Target.{Target}
use Rattle.ceu_tree.specs.declared.source.Target.TheVariants as target
use Rattle.ceu_tree.specs.declared.source.Await.{Await}
use Rattle.ceu_tree.specs.declared.source.Await.TheVariants as await
use Rattle.ceu_tree.specs.declared.source.Exp.{Exp}
use Rattle.ceu_tree.specs.declared.kernel.Loc.{Loc}
use Rattle.ceu_tree.specs.declared.kernel.KKind.{KKind}
use Rattle.ceu_tree.specs.declared.kernel.KKind.TheVariants as kind
use Rattle.ceu_tree.specs.declared.kernel.KLoop.TheVariants as turns
use Rattle.ceu_tree.specs.declared.kernel.KArm.{KArm'}
use Rattle.ceu_tree.specs.declared.kernel.KStmt as kernel
use Rattle.ceu_tree.specs.declared.kernel.KStmt.{KStmt}
use Rattle.ceu_tree.specs.Proper.{Aim, LoopAim, Where, is_trail, outside_asyncs, outside_finalizers}
use Rattle.ceu_scopes.specs.declared.known.Scopes.{Scopes}
use Rattle.ceu_types.specs.declared.typing.Types.{Types}
use Rattle.ceu_types.specs.declared.found.Found.{Found}
use Rattle.ceu_types.specs.Notes.{asks_own, passed, not_in_async, not_in_finalizer}
use Rattle.ceu_types.specs.Uses.{use_type, is_output_use}
use Rattle.ceu_types.specs.Expressions.{condition, given}
use Rattle.ceu_types.specs.Around.{takes_value}
use Rattle.ceu_types.specs.Statements.{if_given, call_found, spawn_found, target_found, await_found, if_spawn_found, emitted, emit_found, acts}
use Rattle.ceu_expand.specs.declared.draft.Draft.{Draft}
use Rattle.ceu_expand.specs.Draft.{begun, hidden, placed, opened, block_of, around_block, declared}
use Rattle.ceu_expand.specs.Lists.{each}
use Rattle.ceu_expand.specs.Uses.{names_output, use_number, used}
use Rattle.ceu_expand.specs.Expressions.{exp_passed, if_exp_passed, exp_written}
use Rattle.ceu_expand.specs.Parts as parts
use Rattle.ceu_expand.specs.Parts.{simple, nothing_in, assigned, sent, escaped, await_written, target_passed, target_awaited, broken_if, awaited_and_asked, awaited_until, code_awaited, awaited, spawned, started, alias_declared, pool_declared, killed}
use Rattle.laws_kernel_shape.proofs.Frames.{frame, frame_used, frame_exp, frame_if_exp, frame_each, frame_target}
use Rattle.laws_kernel_shape.specs.Exits.{is_loop, DeclStands, StmtStands, BlockStands}
use Rattle.laws_kernel_shape.proofs.Fine.{Fine, fine_own, fine_passed, fine_async, fine_acts, outside_trail}
use Rattle.laws_kernel_shape.proofs.Beside.{Level, Step, none_step, step_then, used_step, acts_step, begun_step, hidden_step, declared_step, placed_step, block_step, same_output}
use Rattle.laws_kernel_shape.proofs.Pieces.{given_step, condition_step, if_given_step, call_step, spawn_step, target_step, emit_step}
use Rattle.laws_kernel_shape.proofs.Held.{Holds, holds_as, holds_placed, holds_declared, holds_opened, holds_block, around_parts, if_stands}

-- ---- the parts of a draft stay

pub parts_of : (d e : Draft) → frame e ≡ frame d → e.parts ≡ d.parts
parts_of d e h = ap (λ (x : Draft). x.parts) h

pub begun_parts : (d : Draft) → (begun d).parts ≡ d.parts
unfolding begun
begun_parts d = refl

pub hidden_parts : (n : ℕ) (d : Draft) → (hidden n d).parts ≡ d.parts
unfolding hidden
hidden_parts n d = refl

-- a statement of the text, by the walk through types and by the draft
module _ (s : Scopes) (t : Types) where
  pub record Part (f : Found) (d : Draft) (g : Found) (e : Draft) : Type 0 where
    pub step : Step s f d g e
    pub holds : (place : Where) (aims : List Aim) → Level s f d → Fine place g → Holds place aims d → Holds place aims e

  -- a statement of the kernel without parts of its own
  pub placed_part : (p : Pos) (st : KStmt) (f g : Found) (d e : Draft) → Step s f (begun d) g e → e.parts ≡ d.parts →
      ((place : Where) (aims : List Aim) → Level s f d → Fine place g → StmtStands place aims d.node st) → Part f d g (placed d.node p st e)
  placed_part p st f g d e step same stands =
      record {
        step = step_then s (begun_step s f d) (step_then s step (placed_step s d.node p st g e));
        holds = λ place aims level fine h. holds_placed place aims d.node p st d e same (stands place aims level fine) h;
      }

  pub simple_part : (p : Pos) (st : KStmt) (f g : Found) (d : Draft) → Step s f (begun d) g (begun d) → ((place : Where) (aims : List Aim) → Level s f d → Fine place g → StmtStands place aims d.node st) →
      Part f d g (simple p st d)
  simple_part p st f g d step stands = placed_part p st f g d (begun d) step (begun_parts d) stands

  pub part_then : {f g h : Found} {d e c : Draft} → Part f d g e → Part g e h c → Part f d h c
  part_then a b =
      record {
        step = step_then s a.step b.step;
        holds = λ place aims level fine k. b.holds place aims (a.step.level level) fine (a.holds place aims level (b.step.back place fine) k);
      }

  -- nothing stands in the draft that didn't
  pub same_part : (f g : Found) (d e : Draft) → Step s f d g e → e.parts ≡ d.parts → Part f d g e
  same_part f g d e step same = record { step = step; holds = λ place aims level fine h. holds_as place aims d e same h }

  -- ---- assignments, emissions, escapes

  pub assigned_part : (p : Pos) (into : Loc) (x : Exp) (u : Ty) (f : Found) (d : Draft) → Part f d (given s x u f) (assigned s t p into x d)
  unfolding StmtStands
  assigned_part p into x u f d =
      placed_part p (kernel.Assign into (exp_written s t x (begun d))) f (given s x u f) d (exp_passed x (begun d)) (given_step s x u f (begun d))
      (parts_of (begun d) (exp_passed x (begun d)) (frame_exp x (begun d)) ∙ begun_parts d) (λ place aims level fine. tt)

  sent_stands : (place : Where) (aims : List Aim) (k : ℕ) (b : Bool) (n : ℕ) (x : Option Exp) (c : Draft) → (b ≡ true → IsTrue (outside_asyncs place)) → (b ≡ false → IsTrue (is_trail place)) →
      StmtStands place aims k (sent s t b n x c)
  unfolding StmtStands
  sent_stands place aims k true n x c h i = h refl
  sent_stands place aims k false n x c h i = i refl

  emitted_output : (place : Where) (b : Bool) (f : Found) → Fine place (if b then not_in_async f else acts f) → b ≡ true → IsTrue (outside_asyncs place)
  emitted_output place true f h e = (fine_async place f h).1
  emitted_output place false f h e = absurd (cc)

  emitted_event : (place : Where) (b : Bool) (f : Found) → Fine place (if b then not_in_async f else acts f) → b ≡ false → IsTrue (is_trail place)
  emitted_event place false f h e = (fine_acts place f h).1
  emitted_event place true f h e = absurd (cc)

  begun_uses : (d : Draft) → (begun d).uses ≡ d.uses
  unfolding begun
  begun_uses d = refl

  pub emitted_part : (p : Pos) (x : Option Exp) (f : Found) (d : Draft) → Part f d (emit_found s x f) (parts.emitted s t p x d)
  unfolding parts.emitted emit_found
  emitted_part p x f d =
      let c : Draft = if_exp_passed x (used (begun d)) in
      let noted : Found = passed s (asks_own (takes_value (use_type s f.names) x) T4 (emitted s f)) in
      placed_part p (sent s t (names_output s (begun d).uses) (use_number s (begun d)) x (used (begun d))) f (if_given s x (use_type s f.names) noted) d c
      (emit_step s x f (begun d))
      (parts_of (begun d) c (frame_if_exp x (used (begun d)) ∙ frame_used (begun d)) ∙ begun_parts d)
      (λ place aims level fine.
      let same : is_output_use s f.names ≡ names_output s (begun d).uses = same_output s f.names d.uses level ∙ ap (names_output s) (sym (begun_uses d)) in
      let fine_noted : Fine place noted = (if_given_step s x (use_type s f.names) noted d).back place fine in
      let fine_asked = fine_passed s place (asks_own (takes_value (use_type s f.names) x) T4 (emitted s f)) fine_noted in
      let fine_emitted : Fine place (emitted s f) = (fine_own place (takes_value (use_type s f.names) x) T4 (emitted s f) fine_asked).1 in
      sent_stands place aims d.node (names_output s (begun d).uses) (use_number s (begun d)) x (used (begun d))
      (λ e. emitted_output place (is_output_use s f.names) f fine_emitted (same ∙ e))
      (λ e. emitted_event place (is_output_use s f.names) f fine_emitted (same ∙ e)))

  pub killed_part : (p : Pos) (f : Found) (d : Draft) → Part f d (passed s (acts f)) (killed s p d)
  unfolding killed StmtStands
  killed_part p f d =
      placed_part p (kernel.Kill (use_number s (begun d))) f (passed s (acts f)) d (used (begun d)) (step_then s (acts_step s f (begun d)) (used_step s (acts f) (begun d)))
      (parts_of (begun d) (used (begun d)) (frame_used (begun d)) ∙ begun_parts d)
      (λ place aims level fine. (fine_acts place f (fine_passed s place (acts f) fine)).1)

  -- ---- awaits

  await_stands : (place : Where) (aims : List Aim) (n : ℕ) (p : Pos) (into : Option Loc) (x : Target) (c : Draft) → IsTrue (is_trail place) → StmtStands place aims n (await_written s t p into x c)
  unfolding await_written StmtStands
  await_stands place aims n p into (target.Ext x) c h = h
  await_stands place aims n p into (target.Event x) c h = h
  await_stands place aims n p into (target.Time us) c h = h
  await_stands place aims n p into (target.TimeExp e u) c h = h

  -- an await in a place that lets wait
  pub record Wait (f : Found) (d : Draft) (g : Found) (e : Draft) : Type 0 where
    pub step : Step s f d g e
    pub holds : (place : Where) (aims : List Aim) → IsTrue (is_trail place) → Holds place aims d → Holds place aims e

  wait_then : {f g h : Found} {d e c : Draft} → Wait f d g e → Wait g e h c → Wait f d h c
  wait_then a b = record { step = step_then s a.step b.step; holds = λ place aims trail k. b.holds place aims trail (a.holds place aims trail k) }

  placed_wait : (p : Pos) (st : KStmt) (f g : Found) (d e : Draft) → Step s f (begun d) g e → e.parts ≡ d.parts →
      ((place : Where) (aims : List Aim) → IsTrue (is_trail place) → StmtStands place aims d.node st) → Wait f d g (placed d.node p st e)
  placed_wait p st f g d e step same stands =
      record {
        step = step_then s (begun_step s f d) (step_then s step (placed_step s d.node p st g e));
        holds = λ place aims trail h. holds_placed place aims d.node p st d e same (stands place aims trail) h;
      }

  pub target_wait : (p : Pos) (into : Option Loc) (x : Target) (f : Found) (d : Draft) → Wait f d (target_found s x f) (target_awaited s t p into x d)
  unfolding target_awaited
  target_wait p into x f d =
      placed_wait p (await_written s t p into x (begun d)) f (target_found s x f) d (target_passed x (begun d)) (target_step s x f (begun d))
      (parts_of (begun d) (target_passed x (begun d)) (frame_target x (begun d)) ∙ begun_parts d)
      (λ place aims trail. await_stands place aims d.node p into x (begun d) trail)

  break_holds : (place : Where) (aims : List Aim) (loop : ℕ) (p : Pos) (c : Draft) → IsTrue (outside_finalizers place) → list_any (is_loop loop) aims ≡ true → Holds place aims (simple p (kernel.Break loop) (opened 0 c))
  unfolding StmtStands
  break_holds place aims loop p c o h =
      holds_placed place aims (opened 0 c).node p (kernel.Break loop) (opened 0 c) (begun (opened 0 c)) (begun_parts (opened 0 c)) (o, h) (holds_opened place aims 0 c)

  empty_holds : (place : Where) (aims : List Aim) (c : Draft) → BlockStands place aims (block_of 0 nothing_in c)
  empty_holds place aims c = holds_block place aims 0 nothing_in c (holds_opened place aims 0 c)

  simple_step : (p : Pos) (st : KStmt) (f : Found) (d : Draft) → Step s f d f (simple p st d)
  simple_step p st f d = step_then s (begun_step s f d) (placed_step s d.node p st f (begun d))

  empty_step : (f : Found) (d : Draft) → Step s f d f (around_block 0 nothing_in d)
  empty_step f d = block_step s 0 nothing_in f f d (none_step s f (opened 0 d))

  broken_step : (loop : ℕ) (p : Pos) (c : Exp) (f : Found) (d : Draft) → Step s f d (condition s c f) (broken_if s t loop p c d)
  unfolding broken_if
  broken_step loop p c f d =
      let after = exp_passed c (begun d) in
      let g : Found = condition s c f in
      let break = simple p (kernel.Break loop) in
      step_then s (begun_step s f d) (step_then s (condition_step s c f (begun d))
      (step_then s (block_step s 0 break g g after (simple_step p (kernel.Break loop) g (opened 0 after)))
      (step_then s (empty_step g (around_block 0 break after)) (placed_step s d.node p _ g (around_block 0 nothing_in (around_block 0 break after))))))

  broken_holds : (place : Where) (aims : List Aim) (loop : ℕ) (p : Pos) (c : Exp) (d : Draft) → IsTrue (outside_finalizers place) → list_any (is_loop loop) aims ≡ true → Holds place aims d → Holds place aims (broken_if s t loop p c d)
  unfolding broken_if StmtStands
  broken_holds place aims loop p c d o any h =
      let after = exp_passed c (begun d) in
      let break = simple p (kernel.Break loop) in
      let behind = around_block 0 break after in
      let one : BlockStands place aims (block_of 0 break after) = holds_block place aims 0 break after (break_holds place aims loop p after o any) in
      holds_placed place aims d.node p (kernel.If (KArm' (exp_written s t c (begun d)) (block_of 0 break after) ∷ []) (block_of 0 nothing_in behind)) d (around_block 0 nothing_in behind)
      (around_parts 0 nothing_in behind ∙ around_parts 0 break after ∙ parts_of (begun d) after (frame_exp c (begun d)) ∙ begun_parts d)
      (if_stands place aims d.node (KArm' (exp_written s t c (begun d)) (block_of 0 break after) ∷ []) (block_of 0 nothing_in behind) o (one, tt) (empty_holds place aims behind)) h

  own_loop : (n : ℕ) (aims : List Aim) → list_any (is_loop n) (LoopAim n ∷ aims) ≡ true
  own_loop n aims = or_true (n == n) (list_any (is_loop n) aims) ((Decides-eqb n n).1 refl)
    where
      or_true : (b c : Bool) → b ≡ true → (b || c) ≡ true
      or_true true c h = refl
      or_true false c h = absurd (cc)

  until_wait : (p : Pos) (into : Option Loc) (x : Target) (c : Exp) (f : Found) (d : Draft) → Wait f d (condition s c (target_found s x f)) (awaited_until s t p into x c d)
  unfolding awaited_until StmtStands
  until_wait p into x c f d =
      let body = awaited_and_asked s t d.node p into x c in
      let first = target_wait p into x f (opened 0 (begun d)) in
      let inside = target_awaited s t p into x (opened 0 (begun d)) in
      placed_wait p (kernel.Loop turns.Free (block_of 0 body (begun d))) f (condition s c (target_found s x f)) d (around_block 0 body (begun d))
      (block_step s 0 body f (condition s c (target_found s x f)) (begun d) (step_then s first.step (broken_step d.node p c (target_found s x f) inside)))
      (around_parts 0 body (begun d) ∙ begun_parts d)
      (λ place aims trail.
      let o = outside_trail place trail in
      let in_loop = LoopAim d.node ∷ aims in (
        o,
        holds_block place in_loop 0 body (begun d)
            (broken_holds place in_loop d.node p c inside o (own_loop d.node aims) (first.holds place in_loop trail (holds_opened place in_loop 0 (begun d)))),
      ))

  code_wait : (p : Pos) (into : Option Loc) (c : Call) (f : Found) (d : Draft) → Wait f d (call_found s c f) (code_awaited s t p into c d)
  unfolding code_awaited StmtStands
  code_wait p into c f d =
      let start = hidden 1 (begun d) in
      placed_wait p _ f (call_found s c f) d (each exp_passed c.args (used start)) (step_then s (hidden_step s 1 f (begun d)) (call_step s c f start))
      (parts_of start (each exp_passed c.args (used start)) (frame_each exp_passed frame_exp c.args (used start) ∙ frame_used start) ∙ hidden_parts 1 (begun d) ∙ begun_parts d)
      (λ place aims trail. trail)

  pub await_wait : (p : Pos) (into : Option Loc) (w : Await) (f : Found) (d : Draft) → Wait f d (await_found s w f) (awaited s t p into w d)
  unfolding await_found awaited StmtStands
  await_wait p into await.Forever f d = placed_wait p kernel.Forever f f d (begun d) (none_step s f (begun d)) (begun_parts d) (λ place aims trail. trail)
  await_wait p into (await.Code c) f d = code_wait p into c f d
  await_wait p into (await.On x None) f d = target_wait p into x f d
  await_wait p into (await.On x (Some c)) f d = until_wait p into x c f d

  -- ---- spawns, pools and aliases

  spawn_trail : (place : Where) (x : Spawn) (f : Found) (d : Draft) → Fine place (spawn_found s x f) → IsTrue (is_trail place)
  unfolding spawn_found acts
  spawn_trail place x f d fine =
      let called = fine_passed s place (call_found s x.call (not_in_async (not_in_finalizer f))) fine in
      (fine_acts place f ((call_step s x.call (not_in_async (not_in_finalizer f)) d).back place called)).1

  pub spawned_part : (alias : Option ℕ) (x : Spawn) (f : Found) (d : Draft) → Part f d (spawn_found s x f) (spawned s t alias x d)
  unfolding spawned StmtStands
  spawned_part alias x f d =
      let inside = used (begun d) in
      let behind = each exp_passed x.call.args inside in
      placed_part x.pos (kernel.Spawn (use_number s (begun d)) _ (use_number s behind) alias) f (spawn_found s x f) d (used behind) (spawn_step s x f (begun d))
      (parts_of (begun d) (used behind) (frame_used behind ∙ frame_each exp_passed frame_exp x.call.args inside ∙ frame_used (begun d)) ∙ begun_parts d)
      (λ place aims level fine. spawn_trail place x f d fine)

  started_part : (p : Pos) (alias : ℕ) (start : Option Spawn) (f : Found) (d : Draft) → ((place : Where) → Fine place f → IsTrue (is_trail place)) → Part f d (if_spawn_found s start f) (started s t p alias start d)
  unfolding StmtStands
  started_part p alias None f d trail = simple_part p (kernel.Unset alias) f f d (none_step s f (begun d)) (λ place aims level fine. trail place fine)
  started_part p alias (Some x) f d trail = spawned_part (Some alias) x f d

  pub declared_part : (k : KKind) (x : Ident) (f : Found) (d : Draft) → ((place : Where) → Fine place f → DeclStands place (record { slot = d.parts.slot; kind = k; name = x.name; pos = x.pos })) → Part f d f (declared k x d)
  declared_part k x f d stands =
      record { step = declared_step s k x f d; holds = λ place aims level fine h. holds_declared place aims k x d (stands place fine) h }

  used_part : (f : Found) (d : Draft) → Part f d (passed s f) (used d)
  used_part f d = same_part f (passed s f) d (used d) (used_step s f d) (parts_of d (used d) (frame_used d))

  acts_part : (f : Found) (d : Draft) → Part f d (acts f) d
  acts_part f d = same_part f (acts f) d d (acts_step s f d) refl

  acts_passed : (place : Where) (f : Found) → Fine place (passed s (acts f)) → IsTrue (is_trail place)
  acts_passed place f fine = (fine_acts place f (fine_passed s place (acts f) fine)).1

  pub alias_part : (p : Pos) (x : Ident) (start : Option Spawn) (f : Found) (d : Draft) → Part f d (if_spawn_found s start (passed s (acts f))) (alias_declared s t p x start d)
  unfolding alias_declared
  alias_part p x start f d =
      let k = kind.Alias (use_number s d) in
      part_then (acts_part f d) (part_then (used_part (acts f) d)
      (part_then (declared_part k x (passed s (acts f)) (used d) (λ place fine. acts_passed place f fine))
      (started_part p d.parts.slot start (passed s (acts f)) (declared k x (used d)) (λ place fine. acts_passed place f fine))))

  pub pool_part : (places : ℕ) (x : Ident) (f : Found) (d : Draft) → Part f d (passed s (acts f)) (pool_declared s places x d)
  unfolding pool_declared
  pool_part places x f d =
      let k = kind.Pool places (use_number s d) in
      part_then (acts_part f d) (part_then (used_part (acts f) d) (declared_part k x (passed s (acts f)) (used d) (λ place fine. acts_passed place f fine)))
