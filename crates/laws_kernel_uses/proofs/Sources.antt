-- What statements set, and lists of names, declarations and awaits with a block of their own.
use Rattle.std.proofs.Common.{◌≡◌, refl, sym, ap, ◌∙◌, subst, ℕ, ◌+◌, arith, List, [], ◌∷◌, ◌++◌, Option, Some, None, Result, Bool, true, false}
use Rattle.std.specs.Prelude.{⊤, pos, slice_get, if◌then◌else◌}
use Rattle.ceu_base.specs.declared.kinds.Ty.{Ty}
use Rattle.ceu_base.specs.declared.kinds.Pos.{Pos}
use Rattle.ceu_base.specs.declared.kinds.Rule.{Rule}
use Rattle.ceu_tree.specs.declared.source.Class.TheVariants as class
use Rattle.ceu_tree.specs.declared.source.Ident.{Ident}
use Rattle.ceu_tree.specs.declared.source.Target.{Target}
use Rattle.ceu_tree.specs.declared.source.Exp.{Exp}
use Rattle.ceu_tree.specs.declared.source.Source as source
use Rattle.ceu_tree.specs.declared.source.Source.{Source}
use Rattle.ceu_tree.specs.declared.source.Block.{Row_of-Node}
use Rattle.ceu_tree.specs.declared.source.Arm.{Arm'}
use Rattle.ceu_tree.specs.declared.source.Stmt.{Row_of-Arm, end_of-Arm, more_of-Arm, Row_of-Block, end_of-Block, more_of-Block, Held-Stmt-If-1, Stmt-If-1-None', Stmt-If-1-Some'}
use Rattle.ceu_tree.specs.declared.kernel.Loc.{Loc}
use Rattle.ceu_tree.specs.declared.kernel.KDecl.{KDecl}
use Rattle.ceu_tree.specs.declared.kernel.KKind.TheVariants as kind
use Rattle.ceu_tree.specs.declared.kernel.KBlock.{KBlock}
use Rattle.ceu_tree.specs.declared.kernel.KStmt as kernel
use Rattle.ceu_tree.specs.declared.kernel.KStmt.{KStmt, Row_of-KArm, end_of-KArm, more_of-KArm, items-the_row-KArm, items_hidden-the_row-KArm-0, items_hidden-the_row-KBlock-1, Row_of-KBlock, end_of-KBlock, more_of-KBlock, items-the_row-KBlock}
use Rattle.ceu_scopes.specs.declared.known.Role.TheVariants as role
use Rattle.ceu_scopes.specs.declared.known.Scopes.{Scopes}
use Rattle.ceu_scopes.specs.declared.walk.Walk.{Walk}
use Rattle.ceu_scopes.specs.Walk.{Broken, ◌>>=◌, opened, closed, shown, fresh, is_body}
use Rattle.ceu_scopes.specs.Walk as walk
use Rattle.ceu_scopes.specs.Rules.{used, named, declared}
use Rattle.ceu_scopes.specs.Names.{target_walked, name_listed, target_assigned, every_walked}
use Rattle.ceu_types.specs.declared.typing.Types.{Types}
use Rattle.ceu_expand.specs.declared.around.Around.{Around}
use Rattle.ceu_expand.specs.declared.draft.Draft.{Draft}
use Rattle.ceu_expand.specs.Draft as draft
use Rattle.ceu_expand.specs.Draft.{in_loop, in_do, begun, hidden, placed, outside, written, block_of, around_block, standing, event_declared, input_declared, output_declared, own}
use Rattle.ceu_expand.specs.Lists.{each}
use Rattle.ceu_expand.specs.Uses as uses
use Rattle.ceu_expand.specs.Uses.{names_output, use_number, variable, if_variable, if_used}
use Rattle.ceu_expand.specs.Expressions.{exp_passed, exp_written, constant}
use Rattle.ceu_expand.specs.Parts.{nothing_in, target_awaited, name_passed}
use Rattle.ceu_expand.specs.Expansion.{turns_written, turns_passed, range_hidden, range_written, range_passed, declared_in, stmt_written, block_passed, last_passed, nodes_written, arms_passed, blocks_passed}
use Rattle.laws_kernel_shape.specs.Shaped.{AllOf}
use Rattle.laws_kernel_shape.proofs.Codes.{NoCodeInNodes}
use Rattle.laws_kernel_shape.proofs.Good.{all_append}
use Rattle.laws_kernel_shape.proofs.Steps.{Always, always_ok, always_then}
use Rattle.ceu_scopes.specs.Shown.{added, is_among}
use Rattle.laws_kernel_shape.proofs.Frames.{frame_used, frame_if_used, frame_standing, frame_exp}
use Rattle.laws_kernel_shape.proofs.Inside.{Wrote, wrote_same, wrote_then}
use Rattle.laws_kernel_shape.proofs.Wrote.{nodes_wrote}
use Rattle.laws_kernel_shape.proofs.Parts.{target_wrote}
use Rattle.laws_kernel_shape.proofs.Counts.{nodes_add, nodes_hide}
use Rattle.ceu_tree.specs.declared.kernel.Kernel.{Kernel}
use Rattle.ceu_scopes.specs.Walk.{decl_of}
use Rattle.laws_kernel_names.proofs.Holding.{parts_of, parts_hid, around_parts}
use Rattle.laws_kernel_names.proofs.Ranges.{hidden_parts}
use Rattle.laws_kernel_names.proofs.Naming.{block_same}
use Rattle.laws_kernel_uses.specs.Named.{TargetNamed}
use Rattle.laws_kernel_uses.proofs.Sites.{scope_of, NodeHeld, ExpHeld, StmtHeld, BlockHeld}
use Rattle.laws_kernel_uses.proofs.Walking.{Ground, View, Step, step_then, Found, used_found, alias_found, Declares, shown_step}
use Rattle.laws_kernel_uses.proofs.Finding.{slot_is, alias_shown, pool_shown}
use Rattle.laws_kernel_uses.proofs.Spawning.{AliasFor, alias_for}
use Rattle.laws_kernel_uses.proofs.Exps.{Made, still, written_made}
use Rattle.laws_kernel_uses.proofs.Holding.{holds_as, Part, PartIf, if_part, PartsIf, Parts, hidden_step}
use Rattle.laws_kernel_uses.proofs.Showing.{step_shown, declared_counts, block_declares, var_entry}
use Rattle.laws_kernel_uses.proofs.NamedSingle.{target_parts, used_numbers}
use Rattle.laws_kernel_uses.proofs.Opening.{ListedIn}
use Rattle.laws_kernel_uses.proofs.NamedRanges.{loop_ground}

module _ (s : Scopes) (t : Types) (K : Kernel) where
  -- ---- statements

  pub turns_step : (g : Ground) (ds : List KDecl) (base : ℕ) (n : Option ℕ) (w : Walk) (d : Draft) → Step s K g ds base w d w (turns_passed n d)
  unfolding turns_passed
  turns_step g ds base None w d = still s t K g ds base w d
  turns_step g ds base (Some n) w d = hidden_step s t K g ds base 1 w d

  pub turns_parts : (n : Option ℕ) (d : Draft) → (turns_passed n d).parts ≡ d.parts
  unfolding turns_passed
  turns_parts None d = refl
  turns_parts (Some n) d = parts_hid 1 d

  pub turns_held : (g : Ground) (n : Option ℕ) (d : Draft) (b : KBlock) → BlockHeld K g.site b → StmtHeld K g.site (kernel.Loop (turns_written n d) b)
  unfolding turns_written StmtHeld
  turns_held g None d b u = (tt, u)
  turns_held g (Some n) d b u = (tt, u)

  pub range_held : (g : Ground) (open_a : _) (a b : Exp) (open_b : _) (d : Draft) (made : KBlock) → ExpHeld K g.site (exp_written s t a (range_hidden d)) → ExpHeld K g.site (exp_written s t b (exp_passed a (range_hidden d))) → BlockHeld K (loop_ground d.slot g).site made →
      StmtHeld K g.site (kernel.Loop (range_written s t open_a a b open_b d) made)
  unfolding range_written StmtHeld
  range_held g open_a a b open_b d made x y u = ((x, y), u)

  added_all : (P : ℕ → Type 0) (ns : List ℕ) (n : ℕ) → AllOf P ns → P n → AllOf P (added ns n)
  added_all P ns n h k = by_test (is_among n ns)
    where
      by_test : (b : Bool) → AllOf P (if b then ns else ns ++ n ∷ [])
      by_test true = h
      by_test false = all_append P ns n h k

  -- an async lists variables that are found there
  pub record Listing (g : Ground) (ds : List KDecl) (base : ℕ) (p : List ℕ × Walk) (d : Draft) (q : List ℕ × Walk) (e : Draft) : Type 0 where
    pub step : Step s K g ds base p.1 d q.1 e
    pub scopes : q.1.scopes ≡ p.1.scopes
    pub listed : AllOf (ListedIn p.1.scopes) p.0 → AllOf (ListedIn p.1.scopes) q.0

  pub list_made : (g : Ground) (ds : List KDecl) (base : ℕ) (xs : List Ident) (p : List ℕ × Walk) (d : Draft) → Always (λ (q : List ℕ × Walk). Listing g ds base p d q (each name_passed xs d)) (walk.each name_listed xs p)
  unfolding each walk.each
  list_made g ds base [] p d = always_ok (λ (q : List ℕ × Walk). Listing g ds base p d q d) p (record { step = still s t K g ds base p.1 d; scopes = refl; listed = λ h. h })
  list_made g ds base (x ∷ xs) p d =
      always_then (λ (q : List ℕ × Walk). Listing g ds base p d q (uses.used d)) (λ (q : List ℕ × Walk). Listing g ds base p d q (each name_passed xs (uses.used d))) (name_listed x p) (walk.each name_listed xs)
      (always_then (λ q. Found s K g ds base role.Listed x p.1 d q.0 q.1) (λ (q : List ℕ × Walk). Listing g ds base p d q (uses.used d)) (used role.Listed x p.1) _ (used_found s K g ds base role.Listed x p.1 d)
      (λ q f.
      always_ok (λ (q : List ℕ × Walk). Listing g ds base p d q (uses.used d)) (added p.0 q.0.number, q.1) (record {
        step = f.step;
        scopes = f.scopes;
        listed = λ h. added_all (ListedIn p.1.scopes) p.0 q.0.number h (record { name = x; known = q.0; decl = f.use_of.decl; number = refl; variable = f.use_of.takes_it });
      })))
      (λ q one r e.
      let two = list_made g ds base xs q (uses.used d) r e in
      record {
        step = step_then s K g ds base one.step two.step;
        scopes = two.scopes ∙ one.scopes;
        listed = λ h.
            subst (λ sc. AllOf (ListedIn sc) r.0) one.scopes (two.listed (subst (λ sc. AllOf (ListedIn sc) q.0) (sym one.scopes) (one.listed h)));
      })

  -- what is set, and then the value that it takes
  pub if_then : (g : Ground) (ds : List KDecl) (base : ℕ) (M : Walk → Type 0) (w : Walk) (d e c : Draft) (x : Result Walk Broken) (f : Walk → Result Walk Broken) → e.parts.list ≡ d.parts.list → Always (λ v. Made s t K g ds base w d v e (M v)) x →
      ((v : Walk) → PartsIf s t K g ds base (M v) v e (f v) c) → Parts s t K g ds base w d (x >>= f) c
  if_then g ds base M w d e c x f same a h =
      always_then (λ v. Made s t K g ds base w d v e (M v)) (λ v. Part s t K g ds base w d v c) x f a
      (λ u m v k.
      let r = h u v k in
      record {
        step = step_then s K g ds base m.step r.step;
        sees = λ fits begun both held. r.sees (m.so (r.step.fits fits) (r.step.begun begun) both) fits begun (m.step.both (r.step.fits fits) (r.step.begun begun) both) (holds_as K g.site d e same held);
      })

  -- a spawn sets an alias, all else a variable
  abbrev pub TargetOf : Ground → Source → Loc → Walk → Draft → Type 0
  TargetOf g (source.Start x) into w d = AliasFor g.site.seen d.numbers w.scopes x into.slot
  TargetOf g _ into w d = TargetNamed K (scope_of g.site) into

  pub assign_made : (g : Ground) (ds : List KDecl) (base : ℕ) (v : Source) (x : Ident) (w : Walk) (d : Draft) → Always (λ u. Made s t K g ds base w d u (uses.used d) (TargetOf g v (variable s x d) u (uses.used d))) (target_assigned v x w)
  assign_made g ds base (source.Start sp) x w d =
      λ u e.
      let asked = alias_found s K g ds base sp x w d u e in
      let k = asked.known in
      let into = (variable s x d).slot in
      record {
        step = asked.found.step;
        so = λ fits begun both.
            let a = alias_shown s K g ds base x w d k asked.found.use_of.decl asked.found.use_of.takes_it both in
            let number : slice_get d.numbers k.number ≡ Some into = a.slot.is ∙ ap Some (sym (slot_is s x d k.number a.slot.number (asked.found.listed both.uses fits) a.slot.is)) in
            let here : AliasFor g.site.seen d.numbers w.scopes sp into =
            alias_for g.site.seen both.limits base d.numbers w.scopes sp k into both.grows a number asked.unbroken (λ pool decl is. pool_shown s K g ds base sp.pool w d pool decl is both) in
            subst (λ ns. AliasFor g.site.seen ns u.scopes sp into) (sym (used_numbers s t K g ds base d)) (subst (λ sc. AliasFor g.site.seen d.numbers sc sp into) (sym asked.found.scopes) here);
      }
  assign_made g ds base (source.Value e) x w d = written_made s t K g ds base x w d
  assign_made g ds base (source.Wait a) x w d = written_made s t K g ds base x w d
  assign_made g ds base (source.Done b) x w d = written_made s t K g ds base x w d

  own_target : (g : Ground) (n : ℕ) (u : Ty) → TargetNamed K (scope_of g.site) (own n u)
  own_target g n u = (λ o. absurd (cc), λ o. absurd (cc))

  pub item_parts : (g : Ground) (ds : List KDecl) (base : ℕ) → View g ds base → (u : Ty) (r : Option Rule) (x : Ident) (w : Walk) (d e : Draft) (f : Walk → Result Walk Broken) →
      (r ≡ None → (v : Walk) → PartsIf s t K g ds base (TargetNamed K (scope_of g.site) (own d.parts.slot u)) v (draft.declared (kind.Var u) x d) (f v) e) → Parts s t K g ds base w d (declared class.Var u r x w >>= f >>= shown x (fresh class.Var 0 w)) e
  item_parts g ds base env u r x w d e f h =
      let first = draft.declared (kind.Var u) x d in
      let counts = declared_counts s K g ds base (kind.Var u) x d in
      let M = TargetNamed K (scope_of g.site) (own d.parts.slot u) in
      let k = fresh class.Var 0 w in
      let Q : Walk → Type 0 = λ v. (y : Walk) × Declares s K g ds base class.Var u r d.parts.slot w d y first × PartIf s t K g ds base M y first v e in
      always_then Q (λ z. Part s t K g ds base w d z e) (declared class.Var u r x w >>= f) (shown x k)
      (always_then (λ y. Declares s K g ds base class.Var u r d.parts.slot w d y first) Q (declared class.Var u r x w) f (block_declares s K g ds base class.Var u r (kind.Var u) x w d) (λ y dec v j. (y, dec, h dec.unbroken y v j)))
      (λ v q z j.
      let y = q.0 in
      let dec = q.1 in
      let val = q.2 in
      let up = dec.step.blocks in
      let up' = val.step.blocks in
      record {
        step =
            step_shown s K g ds base x k w v z d e (step_then s K g ds base dec.step val.step) j
            (λ fits begun o b. var_entry s K g ds base u r x w y v d e env dec val.step.more (omega (arith, up, up')) (val.step.fits fits) (val.step.begun begun) o b.limits);
        sees = λ fits begun o held.
            let fits_v = (shown_step s K g ds base x k v e z j).fits fits in
            val.sees (own_target g d.parts.slot u) fits_v begun (dec.step.both (val.step.fits fits_v) (val.step.begun begun) o) (holds_as K g.site d first counts.3 held);
      })

  -- ---- the block around stays

  pub last_same : (a : Around) (b : Held-Stmt-If-1) (d : Draft) → (last_passed s t a b d).parts ≡ d.parts
  unfolding stmt_written
  last_same a Stmt-If-1-None' d = around_parts 0 nothing_in d
  last_same a (Stmt-If-1-Some' b) d = block_same s t a b d

  pub arms_same : {n : _} (a : Around) (r : Row_of-Arm n) (d : Draft) → (arms_passed s t a r d).parts ≡ d.parts
  unfolding stmt_written
  arms_same a end_of-Arm d = refl
  arms_same a (more_of-Arm (Arm' c b) rest) d = arms_same a rest (block_passed s t a b (exp_passed c d)) ∙ block_same s t a b (exp_passed c d) ∙ parts_of d (exp_passed c d) (frame_exp c d)

  pub blocks_same : {n : _} (a : Around) (r : Row_of-Block n) (d : Draft) → (blocks_passed s t a r d).parts ≡ d.parts
  unfolding stmt_written
  blocks_same a end_of-Block d = refl
  blocks_same a (more_of-Block b rest) d = blocks_same a rest (block_passed s t a b d) ∙ block_same s t a b d

  pub range_parts : (low high : Exp) (d : Draft) → (range_passed low high d).parts ≡ d.parts
  unfolding range_passed
  range_parts low high d =
      let three = range_hidden d in
      parts_of three (standing d.slot (exp_passed high (exp_passed low three))) (frame_standing d.slot (exp_passed high (exp_passed low three)) ∙ frame_exp high (exp_passed low three) ∙ frame_exp low three) ∙ hidden_parts s t d

  pub zero_held : (g : Ground) (into : Loc) (p : Pos) → ExpHeld K g.site (constant into.ty p (pos 0))
  unfolding NodeHeld
  zero_held g into p = tt

  pub every_wrote : {n : _} (a : Around) (loop : ℕ) (p : Pos) (x : Option Ident) (target : Target) (list : Row_of-Node n) → NoCodeInNodes list → (d : Draft) →
      let begin = draft.opened (declared_in list) d in
      Wrote (declared_in list) (0 + 1 + nodes_add list) (0 + 0 + nodes_hide list) begin (nodes_written s t (in_loop loop a) list (target_awaited s t p (if_variable s x begin) target (if_used x begin)))
  every_wrote a loop p x target list k d =
      let begin = draft.opened (declared_in list) d in
      let first = target_awaited s t p (if_variable s x begin) target (if_used x begin) in
      let all : Wrote (0 + 0 + declared_in list) (0 + 1 + nodes_add list) (0 + 0 + nodes_hide list) begin (nodes_written s t (in_loop loop a) list first) =
      wrote_then (wrote_then (wrote_same begin (if_used x begin) (frame_if_used x begin)) (target_wrote s t p (if_variable s x begin) target (if_used x begin))) (nodes_wrote s t (in_loop loop a) list k first) in
      let count : 0 + 0 + declared_in list ≡ declared_in list = omega arith in
      subst (λ n. Wrote n (0 + 1 + nodes_add list) (0 + 0 + nodes_hide list) begin (nodes_written s t (in_loop loop a) list first)) count all

  pub every_head : (g : Ground) (ds : List KDecl) (base : ℕ) (p : Pos) (x : Option Ident) (target : Target) (w : Walk) (d : Draft) → Parts s t K g ds base w d (every_walked x target w) (target_awaited s t p (if_variable s x d) target (if_used x d))
  every_head g ds base p None target w d = λ v e. if_part s t K g ds base ⊤ tt (target_parts s t K g ds base p None target w d v e)
  every_head g ds base p (Some x) target w d =
      if_then g ds base (λ v. TargetNamed K (scope_of g.site) (variable s x d)) w d (uses.used d) (target_awaited s t p (Some (variable s x d)) target (uses.used d)) (named role.Written x w) (target_walked target) (ap (λ p. p.list) (parts_of d (uses.used d) (frame_used d)))
      (written_made s t K g ds base x w d) (λ v. target_parts s t K g ds base p (Some (variable s x d)) target v (uses.used d))
