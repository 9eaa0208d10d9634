-- Statements name what is visible in their blocks.
use Rattle.std.proofs.Common.{◌≡◌, refl, ap, ◌∙◌, subst, ℕ, ◌+◌, arith, List, [], ◌∷◌, ◌++◌, Option, Some, None, Result, Ok, Err}
use Rattle.std.specs.Prelude.{⊤, not, pos}
use Rattle.ceu_base.specs.declared.kinds.Ty.{Ty}
use Rattle.ceu_base.specs.declared.kinds.Pos.{Pos}
use Rattle.ceu_base.specs.declared.kinds.Rule.{Rule}
use Rattle.ceu_tree.specs.declared.source.Class.TheVariants as class
use Rattle.ceu_tree.specs.declared.source.Ident.{Ident}
use Rattle.ceu_tree.specs.declared.source.Target.{Target}
use Rattle.ceu_tree.specs.declared.source.Exp.{Exp}
use Rattle.ceu_tree.specs.declared.source.Source as source
use Rattle.ceu_tree.specs.declared.source.Source.{Source}
use Rattle.ceu_tree.specs.declared.source.Item.{Held-Item-value, Item-value-None', Item-value-Some'}
use Rattle.ceu_tree.specs.declared.source.Do.{Do, Do'}
use Rattle.ceu_tree.specs.declared.source.Block.{Block, Block', Row_of-Node, end_of-Node, more_of-Node}
use Rattle.ceu_tree.specs.declared.source.Arm.{Arm'}
use Rattle.ceu_tree.specs.declared.source.Range.{Range, Range'}
use Rattle.ceu_tree.specs.declared.source.Stmt as stmt
use Rattle.ceu_tree.specs.declared.source.Stmt.{Stmt, Vars', If', Par', Row_of-Item, end_of-Item, more_of-Item, Row_of-Arm, end_of-Arm, more_of-Arm, Row_of-Block, end_of-Block, more_of-Block, Held-Stmt-If-1, Stmt-If-1-None', Stmt-If-1-Some'}
use Rattle.ceu_tree.specs.declared.kernel.Loc.{Loc}
use Rattle.ceu_tree.specs.declared.kernel.KDecl.{KDecl}
use Rattle.ceu_tree.specs.declared.kernel.KKind.TheVariants as kind
use Rattle.ceu_tree.specs.declared.kernel.KLoop.TheVariants as turns
use Rattle.ceu_tree.specs.declared.kernel.ParKind.TheVariants as par
use Rattle.ceu_tree.specs.declared.kernel.KBlock.{KBlock}
use Rattle.ceu_tree.specs.declared.kernel.KStmt as kernel
use Rattle.ceu_tree.specs.declared.kernel.KStmt.{KStmt, Row_of-KArm, end_of-KArm, more_of-KArm, items-the_row-KArm, items_hidden-the_row-KArm-0, items_hidden-the_row-KBlock-1, Row_of-KBlock, end_of-KBlock, more_of-KBlock, items-the_row-KBlock}
use Rattle.ceu_scopes.specs.declared.known.Role.TheVariants as role
use Rattle.ceu_scopes.specs.declared.known.Scopes.{Scopes}
use Rattle.ceu_scopes.specs.declared.scope.Border.{Border}
use Rattle.ceu_scopes.specs.declared.scope.Border.TheVariants.{Plain, Async}
use Rattle.ceu_scopes.specs.declared.walk.Walk.{Walk}
use Rattle.ceu_scopes.specs.Walk.{Broken, ◌>>=◌, opened, closed, shown, fresh, is_body}
use Rattle.ceu_scopes.specs.Walk as walk
use Rattle.ceu_scopes.specs.Rules.{used, named, declared}
use Rattle.ceu_scopes.specs.Names.{exp_walked, target_walked, ident_declared, port_declared, value_broken, name_listed, target_assigned, every_walked, stmt_walked, source_walked, value_walked, do_walked, block_walked, last_walked, range_walked, items_walked, arms_walked, blocks_walked, nodes_walked}
use Rattle.ceu_types.specs.declared.typing.Types.{Types}
use Rattle.ceu_expand.specs.declared.around.Around.{Around}
use Rattle.ceu_expand.specs.declared.draft.Draft.{Draft}
use Rattle.ceu_expand.specs.Draft as draft
use Rattle.ceu_expand.specs.Draft.{in_loop, in_do, begun, hidden, placed, outside, written, block_of, around_block, standing, event_declared, input_declared, output_declared, own}
use Rattle.ceu_expand.specs.Lists.{each}
use Rattle.ceu_expand.specs.Uses as uses
use Rattle.ceu_expand.specs.Uses.{names_output, use_number, variable, if_variable, if_used}
use Rattle.ceu_expand.specs.Expressions.{exp_passed, exp_written, constant}
use Rattle.ceu_expand.specs.Parts.{nothing_in, target_awaited, name_passed}
use Rattle.ceu_expand.specs.Expansion.{row_blocks, par_hidden, par_slot, turns_written, turns_passed, range_hidden, range_written, range_passed, declared_in, stmt_written, source_written, value_written, do_written, ranged, every_written, every_passed, block_written, block_passed, last_written, last_passed, nodes_written, items_written, arms_written, arms_passed, blocks_written, blocks_passed}
use Rattle.laws_kernel_shape.specs.Shaped.{AllOf}
use Rattle.laws_kernel_shape.proofs.Codes.{NoCode, NoCodeInSource, NoCodeInValue, NoCodeInDo, NoCodeInBlock, NoCodeInLast, NoCodeInRange, NoCodeInItems, NoCodeInArms, NoCodeInBlocks, NoCodeInNodes}
use Rattle.laws_kernel_shape.proofs.Steps.{Always, always_ok, always_then}
use Rattle.ceu_tree.specs.Numbering.{decl_slots}
use Rattle.ceu_tree.specs.Proper.{Seen, IsVariable, find, declared_seen, variable_ty, has_ty, is_loop_variable}
use Rattle.ceu_scopes.specs.Shown.{added}
use Rattle.laws_kernel_shape.proofs.Frames.{frame_used, frame_if_used, frame_standing, frame_labelled, frame_unlabelled, frame_exp, frame_each}
use Rattle.laws_kernel_shape.proofs.Inside.{append_assoc, Wrote, wrote_same, wrote_then}
use Rattle.laws_kernel_shape.proofs.Runs.{Runs}
use Rattle.laws_kernel_names.specs.Sees.{seen_with, TargetSeen, MaybeTarget, NodeSeen, ExpSeen, StmtSeen, BlockSeen, ArmSeen}
use Rattle.laws_kernel_names.proofs.Views.{find_own}
use Rattle.laws_kernel_names.proofs.Seeing.{Begun, View, Step, step_then, Found, used_found, alias_goes, Declares, shown_step, means_up}
use Rattle.laws_kernel_shape.proofs.Wrote.{nodes_wrote}
use Rattle.laws_kernel_shape.proofs.Parts.{target_wrote}
use Rattle.laws_kernel_shape.proofs.Counts.{nodes_add, nodes_hide}
use Rattle.laws_kernel_names.proofs.Looking.{same_type, Made, Gives, made_then, goes_made, still, still_made, draft_made, written_made, exp_made}
use Rattle.laws_kernel_names.proofs.Holding.{if_seen, par_seen, holds_as, parts_of, parts_hid, parts_begun, around_parts, Part, PartIf, if_part, part_if, PartsIf, Parts, parts_then, hidden_step, of_made, of_made_if, simple_parts}
use Rattle.laws_kernel_names.proofs.Single.{assigned_parts, emitted_parts, escaped_parts, killed_parts, target_parts, spawned_parts, declared_counts, block_declares, pool_parts, alias_parts, each_parts, event_parts, input_parts, output_parts, var_means}
use Rattle.laws_kernel_names.proofs.Blocks.{close_block, bare_block, opened_none, target_decls, await_parts, block_runs, new_view, still_part, block_gives, do_gives}
use Rattle.laws_kernel_names.proofs.Ranges.{loop_view, hidden_parts, range_made}

module _ (s : Scopes) (t : Types) where
  -- ---- statements

  turns_step : (view : List Seen) (ds : List KDecl) (base : ℕ) (n : Option ℕ) (w : Walk) (d : Draft) → Step s view ds base w d w (turns_passed n d)
  unfolding turns_passed
  turns_step view ds base None w d = still s t view ds base w d
  turns_step view ds base (Some n) w d = hidden_step s t view ds base 1 w d

  turns_parts : (n : Option ℕ) (d : Draft) → (turns_passed n d).parts ≡ d.parts
  unfolding turns_passed
  turns_parts None d = refl
  turns_parts (Some n) d = parts_hid 1 d

  turns_seen : (view : List Seen) (n : Option ℕ) (d : Draft) (b : KBlock) → BlockSeen view b → StmtSeen view (kernel.Loop (turns_written n d) b)
  unfolding turns_written StmtSeen
  turns_seen view None d b u = (tt, u)
  turns_seen view (Some n) d b u = (tt, u)

  range_seen : (view : List Seen) (open_a : _) (a b : Exp) (open_b : _) (d : Draft) (made : KBlock) → ExpSeen view (exp_written s t a (range_hidden d)) → ExpSeen view (exp_written s t b (exp_passed a (range_hidden d))) → BlockSeen (loop_view s t d.slot view) made →
      StmtSeen view (kernel.Loop (range_written s t open_a a b open_b d) made)
  unfolding range_written StmtSeen
  range_seen view open_a a b open_b d made x y u = ((x, y), u)

  list_made : (view : List Seen) (ds : List KDecl) (base : ℕ) (xs : List Ident) (p : List ℕ × Walk) (d : Draft) → Always (λ (q : List ℕ × Walk). Step s view ds base p.1 d q.1 (each name_passed xs d)) (walk.each name_listed xs p)
  unfolding each walk.each
  list_made view ds base [] p d = always_ok (λ (q : List ℕ × Walk). Step s view ds base p.1 d q.1 d) p (still s t view ds base p.1 d)
  list_made view ds base (x ∷ xs) p d =
      always_then (λ (q : List ℕ × Walk). Step s view ds base p.1 d q.1 (uses.used d)) (λ (q : List ℕ × Walk). Step s view ds base p.1 d q.1 (each name_passed xs (uses.used d))) (name_listed x p) (walk.each name_listed xs)
      (always_then (λ q. Found s view ds base role.Listed x p.1 d q.0 q.1) (λ (q : List ℕ × Walk). Step s view ds base p.1 d q.1 (uses.used d)) (used role.Listed x p.1) _ (used_found s view ds base role.Listed x p.1 d)
      (λ q k. always_ok (λ (q : List ℕ × Walk). Step s view ds base p.1 d q.1 (uses.used d)) (added p.0 q.0.number, q.1) k.step))
      (λ q k r e. step_then s view ds base k (list_made view ds base xs q (uses.used d) r e))

  if_then : (view : List Seen) (ds : List KDecl) (base : ℕ) (M : Type 0) (w : Walk) (d e c : Draft) (x : Result Walk Broken) (f : Walk → Result Walk Broken) → e.parts.list ≡ d.parts.list → Gives s t view ds base w d x e M → ((v : Walk) → PartsIf s t view ds base M v e (f v) c) → Parts s t view ds base w d (x >>= f) c
  if_then view ds base M w d e c x f same a h =
      always_then (λ v. Made s t view ds base w d v e M) (λ v. Part s t view ds base w d v c) x f a
      (λ u m v k.
      let r = h u v k in
      record {
        step = step_then s view ds base m.step r.step;
        sees = λ g b o held. r.sees (m.so (r.step.fits g) (r.step.begun b) o) g b (m.step.both (r.step.fits g) (r.step.begun b) o) (holds_as view d e same held);
      })

  abbrev TargetOf : List Seen → Source → Loc → Type 0
  TargetOf view (source.Start x) into = ⊤
  TargetOf view _ into = TargetSeen view into

  assign_made : (view : List Seen) (ds : List KDecl) (base : ℕ) (v : Source) (x : Ident) (w : Walk) (d : Draft) → Gives s t view ds base w d (target_assigned v x w) (uses.used d) (TargetOf view v (variable s x d))
  assign_made view ds base (source.Start sp) x w d = goes_made s t view ds base w d (uses.used d) (target_assigned (source.Start sp) x w) (alias_goes s view ds base sp x w d)
  assign_made view ds base (source.Value e) x w d = written_made s t view ds base x w d
  assign_made view ds base (source.Wait a) x w d = written_made s t view ds base x w d
  assign_made view ds base (source.Done b) x w d = written_made s t view ds base x w d

  own_there : (view : List Seen) (ds : List KDecl) (base : ℕ) (u : Ty) (x : Ident) (d : Draft) → View view ds base → Begun ds (draft.declared (kind.Var u) x d) → find d.parts.slot view ≡ Some (IsVariable u)
  unfolding draft.declared
  own_there view ds base u x d env begun =
      let own' : KDecl = record { slot = d.parts.slot; kind = kind.Var u; name = x.name; pos = x.pos } in
      let all : ds ≡ d.parts.decls ++ own' ∷ begun.more = begun.is ∙ append_assoc d.parts.decls (own' ∷ []) begun.more in
      let runs : Runs env.first (decl_slots (d.parts.decls ++ own' ∷ begun.more)) base = subst (λ xs. Runs env.first (decl_slots xs) base) all env.runs in
      ap (find d.parts.slot) (env.is ∙ ap (λ xs. declared_seen env.pools xs env.older) all) ∙ find_own env.pools d.parts.decls own' begun.more env.older env.first base runs

  own_target : (view : List Seen) (n : ℕ) (u : Ty) → find n view ≡ Some (IsVariable u) → TargetSeen view (own n u)
  own_target view n u e = (λ o. ap (λ x. has_ty (variable_ty x) u) e ∙ same_type u, λ o. ap (λ x. not (is_loop_variable x)) e)

  item_parts : (view : List Seen) (ds : List KDecl) (base : ℕ) → View view ds base → (u : Ty) (r : Option Rule) (x : Ident) (w : Walk) (d e : Draft) (f : Walk → Result Walk Broken) → ((v : Walk) → PartsIf s t view ds base (TargetSeen view (own d.parts.slot u)) v (draft.declared (kind.Var u) x d) (f v) e) →
      Parts s t view ds base w d (declared class.Var u r x w >>= f >>= shown x (fresh class.Var 0 w)) e
  item_parts view ds base env u r x w d e f h =
      let first = draft.declared (kind.Var u) x d in
      let counts = declared_counts s t view ds base (kind.Var u) x d in
      let M = TargetSeen view (own d.parts.slot u) in
      let Q : Walk → Type 0 = λ v. (y : Walk) × Declares s view ds base u d.parts.slot w d y first × PartIf s t view ds base M y first v e in
      always_then Q (λ z. Part s t view ds base w d z e) (declared class.Var u r x w >>= f) (shown x (fresh class.Var 0 w))
      (always_then (λ y. Declares s view ds base u d.parts.slot w d y first) Q (declared class.Var u r x w) f (block_declares s t view ds base class.Var u r (kind.Var u) x w d) (λ y dec v k. (y, dec, h y v k)))
      (λ v q z k.
      let y = q.0 in
      let dec = q.1 in
      let val = q.2 in
      let sh = shown_step s view ds base x (fresh class.Var 0 w) v e z k in
      let both_steps = step_then s view ds base dec.step val.step in
      record {
        step = record {
          fits = λ g. both_steps.fits (sh.1 g);
          begun = λ b. both_steps.begun b;
          both = λ g b o.
              let fv = sh.1 g in
              let fy = val.step.fits fv in
              let by = val.step.begun b in
              let m = var_means s t view ds base u x w d first y env dec refl fy by o in
              sh.0 (both_steps.both fv b o) (means_up s view ds base first e val.step.more (fresh class.Var 0 w) m);
          slots = both_steps.slots;
          more = both_steps.more;
          rest = sh.2 ∙ both_steps.rest;
        };
        sees = λ g b o held.
            let fv = sh.1 g in
            let fy = val.step.fits fv in
            let by = val.step.begun b in
            val.sees (own_target view d.parts.slot u (own_there view ds base u x d env by)) fv b (dec.step.both fy by o) (holds_as view d first counts.3 held);
      })

  -- ---- the block around stays

  pub block_same : (a : Around) (b : Block) (d : Draft) → (block_passed s t a b d).parts ≡ d.parts
  unfolding stmt_written
  block_same a (Block' _ list) d = around_parts (declared_in list) (nodes_written s t a list) d

  last_same : (a : Around) (b : Held-Stmt-If-1) (d : Draft) → (last_passed s t a b d).parts ≡ d.parts
  unfolding stmt_written
  last_same a Stmt-If-1-None' d = around_parts 0 nothing_in d
  last_same a (Stmt-If-1-Some' b) d = block_same a b d

  arms_same : {n : _} (a : Around) (r : Row_of-Arm n) (d : Draft) → (arms_passed s t a r d).parts ≡ d.parts
  unfolding stmt_written
  arms_same a end_of-Arm d = refl
  arms_same a (more_of-Arm (Arm' c b) rest) d = arms_same a rest (block_passed s t a b (exp_passed c d)) ∙ block_same a b (exp_passed c d) ∙ parts_of d (exp_passed c d) (frame_exp c d)

  blocks_same : {n : _} (a : Around) (r : Row_of-Block n) (d : Draft) → (blocks_passed s t a r d).parts ≡ d.parts
  unfolding stmt_written
  blocks_same a end_of-Block d = refl
  blocks_same a (more_of-Block b rest) d = blocks_same a rest (block_passed s t a b d) ∙ block_same a b d

  range_parts : (low high : Exp) (d : Draft) → (range_passed low high d).parts ≡ d.parts
  unfolding range_passed
  range_parts low high d =
      let three = range_hidden d in
      parts_of three (standing d.slot (exp_passed high (exp_passed low three))) (frame_standing d.slot (exp_passed high (exp_passed low three)) ∙ frame_exp high (exp_passed low three) ∙ frame_exp low three) ∙ hidden_parts s t d

  zero_seen : (view : List Seen) (into : Loc) (p : Pos) → ExpSeen view (constant into.ty p (pos 0))
  unfolding NodeSeen
  zero_seen view into p = tt

  target_part : (view : List Seen) (ds : List KDecl) (base : ℕ) (v : Source) (into : Loc) (w u : Walk) (d e : Draft) → PartIf s t view ds base (TargetOf view v into) w d u e → PartIf s t view ds base (TargetSeen view into) w d u e
  target_part view ds base (source.Start x) into w u d e h = record { step = h.step; sees = λ m. h.sees tt }
  target_part view ds base (source.Value x) into w u d e h = h
  target_part view ds base (source.Wait x) into w u d e h = h
  target_part view ds base (source.Done x) into w u d e h = h

  pub bind_ok : (m : Result Walk Broken) (f : Walk → Result Walk Broken) (z : Walk) → (m >>= f) ≡ Ok z → (a : Walk) × (m ≡ Ok a) × (f a ≡ Ok z)
  unfolding ◌>>=◌
  bind_ok (Ok a) f z h = (a, refl, h)
  bind_ok (Err r) f z h = absurd (cc)

  every_wrote : {n : _} (a : Around) (loop : ℕ) (p : Pos) (x : Option Ident) (target : Target) (list : Row_of-Node n) → NoCodeInNodes list → (d : Draft) →
      let begin = draft.opened (declared_in list) d in
      Wrote (declared_in list) (0 + 1 + nodes_add list) (0 + 0 + nodes_hide list) begin (nodes_written s t (in_loop loop a) list (target_awaited s t p (if_variable s x begin) target (if_used x begin)))
  every_wrote a loop p x target list k d =
      let begin = draft.opened (declared_in list) d in
      let first = target_awaited s t p (if_variable s x begin) target (if_used x begin) in
      let all : Wrote (0 + 0 + declared_in list) (0 + 1 + nodes_add list) (0 + 0 + nodes_hide list) begin (nodes_written s t (in_loop loop a) list first) =
      wrote_then (wrote_then (wrote_same begin (if_used x begin) (frame_if_used x begin)) (target_wrote s t p (if_variable s x begin) target (if_used x begin))) (nodes_wrote s t (in_loop loop a) list k first) in
      let count : 0 + 0 + declared_in list ≡ declared_in list = omega arith in
      subst (λ n. Wrote n (0 + 1 + nodes_add list) (0 + 0 + nodes_hide list) begin (nodes_written s t (in_loop loop a) list first)) count all

  every_head : (view : List Seen) (ds : List KDecl) (base : ℕ) (p : Pos) (x : Option Ident) (target : Target) (w : Walk) (d : Draft) → Parts s t view ds base w d (every_walked x target w) (target_awaited s t p (if_variable s x d) target (if_used x d))
  every_head view ds base p None target w d = λ v e. if_part s t view ds base ⊤ tt (target_parts s t view ds base p None target w d v e)
  every_head view ds base p (Some x) target w d =
      if_then view ds base (TargetSeen view (variable s x d)) w d (uses.used d) (target_awaited s t p (Some (variable s x d)) target (uses.used d)) (named role.Written x w) (target_walked target) (ap (λ p. p.list) (parts_of d (uses.used d) (frame_used d)))
      (written_made s t view ds base x w d) (λ v. target_parts s t view ds base p (Some (variable s x d)) target v (uses.used d))

  mutual
    unfolding NoCode stmt_walked stmt_written StmtSeen

    pub stmt_parts : (view : List Seen) (ds : List KDecl) (base : ℕ) → View view ds base → (a : Around) (p : Pos) (st : Stmt) → NoCode st → (w : Walk) (d : Draft) → Parts s t view ds base w d (stmt_walked st w) (stmt_written s t a p st d)
    stmt_parts view ds base env a p stmt.Nothing k w d = simple_parts s t view ds base p kernel.Nothing w d tt
    stmt_parts view ds base env a p stmt.Break k w d = simple_parts s t view ds base p (kernel.Break a.turns) w d tt
    stmt_parts view ds base env a p stmt.Continue k w d = simple_parts s t view ds base p (kernel.Continue a.turns) w d tt
    stmt_parts view ds base env a p (Vars' u _ items) k w d = items_parts view ds base env a p u items k w d
    stmt_parts view ds base env a p (stmt.AliasDecl code x start) k w d = alias_parts s t view ds base p code x start w d
    stmt_parts view ds base env a p (stmt.Events u xs) k w d = each_parts s t view ds base (ident_declared class.Event u None) (event_declared a.code u) (event_parts s t view ds base a.code u) xs w d
    stmt_parts view ds base env a p (stmt.Inputs u xs) k w d = each_parts s t view ds base (port_declared class.Input u) (input_declared u) (input_parts s t view ds base u) xs w d
    stmt_parts view ds base env a p (stmt.Outputs u xs) k w d = each_parts s t view ds base (port_declared class.Output u) (output_declared u) (output_parts s t view ds base u) xs w d
    stmt_parts view ds base env a p (stmt.Pool n code x) k w d = pool_parts s t view ds base n code x w d
    stmt_parts view ds base env a p (stmt.Code x ps result b) k w d = absurd k
    stmt_parts view ds base env a p (stmt.Assign x v) k w d =
        if_then view ds base (TargetOf view v (variable s x d)) w d (uses.used d) (source_written s t a p (variable s x d) v (uses.used d)) (target_assigned v x w) (source_walked v) (ap (λ p. p.list) (parts_of d (uses.used d) (frame_used d)))
        (assign_made view ds base v x w d) (λ u. source_parts view ds base env a p (variable s x d) v k u (uses.used d))
    stmt_parts view ds base env a p (stmt.Emit x e) k w d = emitted_parts s t view ds base p x e w d
    stmt_parts view ds base env a p (stmt.Await x) k w d = λ v e. if_part s t view ds base ⊤ tt (await_parts s t view ds base p None x w d v e)
    stmt_parts view ds base env a p (stmt.Spawn x) k w d = spawned_parts s t view ds base None x w d
    stmt_parts view ds base env a p (stmt.Kill x) k w d = killed_parts s t view ds base p x w d
    stmt_parts view ds base env a p (stmt.Escape l e) k w d = escaped_parts s t view ds base a p l e w d
    stmt_parts view ds base env a p (stmt.Do b) k w d = λ v e. if_part s t view ds base ⊤ tt (do_parts view ds base env a p None b k w d v e)
    stmt_parts view ds base env a p (stmt.Finalize b) k w d =
        of_made s t view ds base p (kernel.Finalize (block_written s t a b (begun d))) (BlockSeen view (block_written s t a b (begun d))) w d (block_passed s t a b (begun d)) (block_walked b Plain w) (block_same a b (begun d) ∙ parts_begun d) (λ u. u) (block_parts view ds base a b Plain k w (begun d))
    stmt_parts view ds base env a p (If' _ arms last) k w d =
        let d' = begun d in
        let e = arms_passed s t a arms d' in
        let made = arms_written s t a arms d' in
        let rest = last_written s t a last e in
        of_made s t view ds base p (kernel.If made rest) (AllOf (ArmSeen view) made × BlockSeen view rest) w d (last_passed s t a last e) (arms_walked arms w >>= last_walked last) (last_same a last e ∙ arms_same a arms d' ∙ parts_begun d) (λ u. if_seen view made rest u.0 u.1)
        (made_then s t view ds base (AllOf (ArmSeen view) made) (BlockSeen view rest) w d' e (last_passed s t a last e) (arms_walked arms w) (last_walked last) (arms_parts view ds base a arms k.0 w d') (λ v. last_parts view ds base a last k.1 v e))
    stmt_parts view ds base env a p (stmt.Loop limit b) k w d =
        let c = turns_passed limit (begun d) in
        let made = block_written s t (in_loop d.node a) b c in
        let e = block_passed s t (in_loop d.node a) b c in
        of_made s t view ds base p (kernel.Loop (turns_written limit (begun d)) made) (BlockSeen view made) w d e (block_walked b Plain w) (block_same (in_loop d.node a) b c ∙ turns_parts limit (begun d) ∙ parts_begun d) (λ u. turns_seen view limit (begun d) made u)
        (draft_made s t view ds base (BlockSeen view made) w (begun d) c e (block_walked b Plain w) (turns_step view ds base limit w (begun d)) (block_parts view ds base (in_loop d.node a) b Plain k w c))
    stmt_parts view ds base env a p (stmt.Range r) k w d = ranged_parts view ds base a p r k w d
    stmt_parts view ds base env a p (stmt.Every x target b) k w d = every_parts view ds base a p x target b k w d
    stmt_parts view ds base env a p (stmt.Watching target b) k w d =
        let d' = begun d in
        let f = target_awaited s t p None target in
        let inside = around_block 0 f d' in
        let first = block_of 0 f d' in
        let second = block_written s t a b inside in
        of_made s t view ds base p (kernel.Par par.Or 0 (first ∷ second ∷ [])) ((⊤ → BlockSeen view first) × BlockSeen view second) w d (block_passed s t a b inside) (target_walked target w >>= block_walked b Plain) (block_same a b inside ∙ around_parts 0 f d' ∙ parts_begun d)
        (λ u. par_seen view par.Or 0 (first ∷ second ∷ []) (u.0 tt, (u.1, tt)))
        (made_then s t view ds base (⊤ → BlockSeen view first) (BlockSeen view second) w d' inside (block_passed s t a b inside) (target_walked target w) (block_walked b Plain)
        (λ v e. bare_block s t view ds base ⊤ f w v d' (target_decls s t p None target (draft.opened 0 d') ∙ opened_none s t 0 d') (target_parts s t view [] base p None target w (draft.opened 0 d') v e))
        (λ v. block_parts view ds base a b Plain k v inside))
    stmt_parts view ds base env a p (Par' kind' _ bs) k w d =
        let c = hidden (par_hidden kind' (row_blocks bs)) (begun d) in
        let made = blocks_written s t a bs c in
        of_made s t view ds base p (kernel.Par kind' (par_slot kind' d.slot) made) (AllOf (BlockSeen view) made) w d (blocks_passed s t a bs c) (blocks_walked bs w) (blocks_same a bs c ∙ parts_hid (par_hidden kind' (row_blocks bs)) (begun d) ∙ parts_begun d) (λ u. par_seen view kind' (par_slot kind' d.slot) made u)
        (draft_made s t view ds base (AllOf (BlockSeen view) made) w (begun d) c (blocks_passed s t a bs c) (blocks_walked bs w) (hidden_step s t view ds base (par_hidden kind' (row_blocks bs)) w (begun d)) (blocks_parts view ds base a bs k w c))
    stmt_parts view ds base env a p (stmt.Async xs b) k w d =
        let d' = begun d in
        let inside = each name_passed xs d' in
        let made = block_written s t a b inside in
        let e = block_passed s t a b inside in
        of_made s t view ds base p (kernel.Async made) (BlockSeen view made) w d e (stmt_walked (stmt.Async xs b) w) (block_same a b inside ∙ parts_of d' inside (frame_each name_passed (λ x e. frame_used e) xs d') ∙ parts_begun d) (λ u. u)
        (always_then (λ (q : List ℕ × Walk). Step s view ds base w d' q.1 inside) (λ v. Made s t view ds base w d' v e (BlockSeen view made)) (walk.each name_listed xs ([], w)) (λ listed. block_walked b (Async listed.0) listed.1) (list_made view ds base xs ([], w) d')
        (λ q step u h.
        let m = block_parts view ds base a b (Async q.0) k q.1 inside u h in
        record { step = step_then s view ds base step m.step; so = λ g b o. m.so g b (step.both (m.step.fits g) (m.step.begun b) o) }))

    source_parts : (view : List Seen) (ds : List KDecl) (base : ℕ) → View view ds base → (a : Around) (p : Pos) (into : Loc) (v : Source) → NoCodeInSource v → (w : Walk) (d : Draft) → PartsIf s t view ds base (TargetOf view v into) w d (source_walked v w) (source_written s t a p into v d)
    source_parts view ds base env a p into (source.Value e) k w d = assigned_parts s t view ds base p into e w d
    source_parts view ds base env a p into (source.Wait x) k w d = await_parts s t view ds base p (Some into) x w d
    source_parts view ds base env a p into (source.Start x) k w d = λ v e. part_if s t view ds base ⊤ (spawned_parts s t view ds base (Some into.slot) x w d v e)
    source_parts view ds base env a p into (source.Done b) k w d = do_parts view ds base env a p (Some into) b k w d

    value_parts : (view : List Seen) (ds : List KDecl) (base : ℕ) → View view ds base → (a : Around) (p : Pos) (into : Loc) (v : Held-Item-value) → NoCodeInValue v → (w : Walk) (d : Draft) → PartsIf s t view ds base (TargetSeen view into) w d (value_walked v w) (value_written s t a p into v d)
    value_parts view ds base env a p into Item-value-None' k w d =
        of_made_if s t view ds base (TargetSeen view into) p _ ⊤ w d (begun d) (Ok w) (parts_begun d) (λ m u. (m, zero_seen view into p)) (still_made s t view ds base ⊤ w (begun d) (begun d) (still s t view ds base w (begun d)) tt)
    value_parts view ds base env a p into (Item-value-Some' v) k w d = λ u e. target_part view ds base v into w u d _ (source_parts view ds base env a p into v k w d u e)

    do_parts : (view : List Seen) (ds : List KDecl) (base : ℕ) → View view ds base → (a : Around) (p : Pos) (into : Option Loc) (made : Do) → NoCodeInDo made → (w : Walk) (d : Draft) → PartsIf s t view ds base (MaybeTarget view into) w d (do_walked made w) (do_written s t a p into made d)
    do_parts view ds base env a p into (Do' l b) k w d =
        let d' = begun d in
        let inside = draft.labelled l d.node d' in
        let made = block_written s t (in_do l d.node a) b inside in
        let c = block_passed s t (in_do l d.node a) b inside in
        of_made_if s t view ds base (MaybeTarget view into) p (kernel.Do into made) (BlockSeen view made) w d (draft.unlabelled l c) (do_walked (Do' l b) w)
        (parts_of c (draft.unlabelled l c) (frame_unlabelled l c) ∙ block_same (in_do l d.node a) b inside ∙ parts_of d' inside (frame_labelled l d.node d') ∙ parts_begun d) (λ m u. (m, u))
        (do_gives s t view ds base l d.node (BlockSeen view made) w d' c (block_walked b Plain) (λ v. block_parts view ds base (in_do l d.node a) b Plain k v inside))

    ranged_parts : (view : List Seen) (ds : List KDecl) (base : ℕ) (a : Around) (p : Pos) (r : Range) → NoCodeInRange r → (w : Walk) (d : Draft) → Parts s t view ds base w d (range_walked r w) (ranged s t a p r d)
    ranged_parts view ds base a p (Range' x open_a low high open_b b) k w d =
        let d' = begun d in
        let inside = range_passed low high d' in
        let made = block_written s t (in_loop d.node a) b inside in
        let e = block_passed s t (in_loop d.node a) b inside in
        let U = BlockSeen (loop_view s t d'.slot view) made in
        let same = block_same (in_loop d.node a) b inside ∙ range_parts low high d' in
        of_made s t view ds base p (kernel.Loop (range_written s t open_a low high open_b d') made) (ExpSeen view (exp_written s t low (range_hidden d')) × ExpSeen view (exp_written s t high (exp_passed low (range_hidden d'))) × U) w d e (range_walked (Range' x open_a low high open_b b) w) (same ∙ parts_begun d)
        (λ u. range_seen view open_a low high open_b d' made u.0 u.1 u.2)
        (range_made s t view ds base x low high w d' e U (block_walked b Plain) same (λ v. block_parts (loop_view s t d'.slot view) ds (d'.slot + 1) (in_loop d.node a) b Plain k v inside))

    every_parts : (view : List Seen) (ds : List KDecl) (base : ℕ) (a : Around) (p : Pos) (x : Option Ident) (target : Target) (b : Block) → NoCodeInBlock b → (w : Walk) (d : Draft) →
        Parts s t view ds base w d (every_walked x target w >>= block_walked b Plain) (placed d.node p (kernel.Loop turns.Free (every_written s t a d.node p x target b (begun d))) (every_passed s t a d.node p x target b (begun d)))
    every_parts view ds base a p x target (Block' _ list) k w d =
        let d' = begun d in
        let n = declared_in list in
        let start = draft.opened n d' in
        let f : Draft → Draft = λ inside. nodes_written s t (in_loop d.node a) list (target_awaited s t p (if_variable s x inside) target (if_used x inside)) in
        let d2 = target_awaited s t p (if_variable s x start) target (if_used x start) in
        let D = (f start).parts.decls in
        let view' = seen_with D view in
        let made = block_of n f d' in
        let runs = block_runs s t n _ _ f d' (every_wrote a d.node p x target list k d') in
        of_made s t view ds base p (kernel.Loop turns.Free made) (BlockSeen view made) w d (around_block n f d') (every_walked x target w >>= block_walked (Block' _ list) Plain) (around_parts n f d' ∙ parts_begun d) (λ u. (tt, u))
        (λ z k'.
        let split = bind_ok (every_walked x target w) (block_walked (Block' _ list) Plain) z k' in
        let w1 = split.0 in
        let split' = bind_ok (nodes_walked list (opened Plain w1)) closed z split.2 in
        close_block s t view ds base n f Plain w w1 split'.0 z d' d2 runs (every_head view' D start.slot p x target w start w1 split.1) (every_head view D base p x target w start w1 split.1).step
        (nodes_parts view' D start.slot (new_view s t view n f d' runs) (in_loop d.node a) list k (opened Plain w1) d2 split'.0 split'.1) split'.2)

    pub block_parts : (view : List Seen) (ds : List KDecl) (base : ℕ) (a : Around) (b : Block) (border : Border) → NoCodeInBlock b → (w : Walk) (d : Draft) → Gives s t view ds base w d (block_walked b border w) (block_passed s t a b d) (BlockSeen view (block_written s t a b d))
    block_parts view ds base a (Block' _ list) border k w d =
        let n = declared_in list in
        let f = nodes_written s t a list in
        let start = draft.opened n d in
        let D = (f start).parts.decls in
        let runs = block_runs s t n _ _ f d (nodes_wrote s t a list k start) in
        block_gives s t view ds base n f border w d (nodes_walked list) runs (λ v. nodes_parts (seen_with D view) D start.slot (new_view s t view n f d runs) a list k v start)

    last_parts : (view : List Seen) (ds : List KDecl) (base : ℕ) (a : Around) (b : Held-Stmt-If-1) → NoCodeInLast b → (w : Walk) (d : Draft) → Gives s t view ds base w d (last_walked b w) (last_passed s t a b d) (BlockSeen view (last_written s t a b d))
    last_parts view ds base a Stmt-If-1-None' k w d =
        let nothing : PartIf s t view [] base ⊤ w (draft.opened 0 d) w (draft.opened 0 d) = record { step = still s t view [] base w (draft.opened 0 d); sees = λ m a b c h. h } in
        let m = bare_block s t view ds base ⊤ nothing_in w w d (opened_none s t 0 d) nothing in
        always_ok (λ v. Made s t view ds base w d v (around_block 0 nothing_in d) (BlockSeen view (block_of 0 nothing_in d))) w (record { step = m.step; so = λ g b o. m.so g b o tt })
    last_parts view ds base a (Stmt-If-1-Some' b) k w d = block_parts view ds base a b Plain k w d

    pub nodes_parts : {n : _} (view : List Seen) (ds : List KDecl) (base : ℕ) → View view ds base → (a : Around) (r : Row_of-Node n) → NoCodeInNodes r → (w : Walk) (d : Draft) → Parts s t view ds base w d (nodes_walked r w) (nodes_written s t a r d)
    nodes_parts view ds base env a end_of-Node k w d = always_ok (λ v. Part s t view ds base w d v d) w (still_part s t view ds base w d)
    nodes_parts view ds base env a (more_of-Node p st rest) k w d =
        let e = stmt_written s t a p st d in
        parts_then s t view ds base w d e (nodes_written s t a rest e) (stmt_walked st w) (nodes_walked rest) (stmt_parts view ds base env a p st k.0 w d) (λ v. nodes_parts view ds base env a rest k.1 v e)

    items_parts : {n : _} (view : List Seen) (ds : List KDecl) (base : ℕ) → View view ds base → (a : Around) (p : Pos) (u : Ty) (r : Row_of-Item n) → NoCodeInItems r → (w : Walk) (d : Draft) → Parts s t view ds base w d (items_walked r u w) (items_written s t a p u r d)
    items_parts view ds base env a p u end_of-Item k w d = always_ok (λ v. Part s t view ds base w d v d) w (still_part s t view ds base w d)
    items_parts view ds base env a p u (more_of-Item x v rest) k w d =
        let first = draft.declared (kind.Var u) x d in
        let e = value_written s t a p (own d.parts.slot u) v first in
        parts_then s t view ds base w d e (items_written s t a p u rest e) (declared class.Var u (value_broken v) x w >>= value_walked v >>= shown x (fresh class.Var 0 w)) (items_walked rest u)
        (item_parts view ds base env u (value_broken v) x w d e (value_walked v) (λ y. value_parts view ds base env a p (own d.parts.slot u) v k.0 y first)) (λ y. items_parts view ds base env a p u rest k.1 y e)

    arms_parts : {n : _} (view : List Seen) (ds : List KDecl) (base : ℕ) (a : Around) (r : Row_of-Arm n) → NoCodeInArms r → (w : Walk) (d : Draft) → Gives s t view ds base w d (arms_walked r w) (arms_passed s t a r d) (AllOf (ArmSeen view) (arms_written s t a r d))
    arms_parts view ds base a end_of-Arm k w d = still_made s t view ds base ⊤ w d d (still s t view ds base w d) tt
    arms_parts view ds base a (more_of-Arm (Arm' c b) rest) k w d =
        let d' = exp_passed c d in
        let e = block_passed s t a b d' in
        let made = block_written s t a b d' in
        let C = ExpSeen view (exp_written s t c d) in
        made_then s t view ds base (C × BlockSeen view made) (AllOf (ArmSeen view) (arms_written s t a rest e)) w d e (arms_passed s t a rest e) (exp_walked c w >>= block_walked b Plain) (arms_walked rest)
        (made_then s t view ds base C (BlockSeen view made) w d d' e (exp_walked c w) (block_walked b Plain) (exp_made s t view ds base c w d) (λ v. block_parts view ds base a b Plain k.0 v d')) (λ v. arms_parts view ds base a rest k.1 v e)

    blocks_parts : {n : _} (view : List Seen) (ds : List KDecl) (base : ℕ) (a : Around) (r : Row_of-Block n) → NoCodeInBlocks r → (w : Walk) (d : Draft) → Gives s t view ds base w d (blocks_walked r w) (blocks_passed s t a r d) (AllOf (BlockSeen view) (blocks_written s t a r d))
    blocks_parts view ds base a end_of-Block k w d = still_made s t view ds base ⊤ w d d (still s t view ds base w d) tt
    blocks_parts view ds base a (more_of-Block b rest) k w d =
        let e = block_passed s t a b d in
        made_then s t view ds base (BlockSeen view (block_written s t a b d)) (AllOf (BlockSeen view) (blocks_written s t a rest e)) w d e (blocks_passed s t a rest e) (block_walked b Plain w) (blocks_walked rest) (block_parts view ds base a b Plain k.0 w d)
        (λ v. blocks_parts view ds base a rest k.1 v e)
