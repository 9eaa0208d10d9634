-- An if begins: its conditions are evaluated, and the block that they choose is opened, or the program faults.
use Rattle.std.proofs.Common.{◌≡◌, refl, sym, ap, ◌∙◌, subst, ◌≤◌, ℕ, ◌+◌, ◌*◌, max, true, List, [], ◌∷◌, ◌++◌, length, Bool, Result, Ok, Err, slice_index, arith}
use Rattle.std.specs.Prelude.{◌&&◌}
use Rattle.std.proofs.lemmas.Bool.{and_parts}
use Rattle.ceu_base.specs.declared.kinds.Fault.{Fault}
use Rattle.ceu_base.specs.declared.kinds.Pos.{Pos}
use Rattle.ceu_code.specs.declared.image.Image.{Image}
use Rattle.ceu_asm.specs.declared.line.Line.{Line}
use Rattle.ceu_asm.specs.declared.line.Labels.{Labels}
use Rattle.ceu_asm.specs.Lines.{code_size}
use Rattle.ceu_isa.specs.Turns.{Machine, rewritten}
use Rattle.laws_machine_code.specs.Placed.{Placed}
use Rattle.laws_machine_code.proofs.Lines.{parts_are_placed}
use Rattle.ceu_tree.specs.declared.kernel.Kernel.{Kernel}
use Rattle.ceu_tree.specs.declared.kernel.KArm.{KArm}
use Rattle.ceu_tree.specs.declared.kernel.KNode.{KNode}
use Rattle.ceu_tree.specs.declared.kernel.KBlock.{KBlock}
use Rattle.ceu_tree.specs.declared.kernel.KStmt.{out-KStmt, Row_of-KArm, items-the_row-KArm, items_shown-the_row-KArm-0, If'}
use Rattle.ceu_tree.specs.Depth.{stmt_depth, block_depth, arms_depth}
use Rattle.ceu_tree.specs.Leaf as does
use Rattle.ceu_tree.specs.Leaf.{acted, or_fails, opened, chosen_part}
use Rattle.ceu_tree.specs.Proper.{Scope, outside_finalizers, stmt_ok, block_ok, arms_ok}
use Rattle.ceu_tree.specs.Residual.{Program, Begin, Start, no_instance}
use Rattle.ceu_tree.specs.Focus.{Frame, OfBlock, OfOpen, Here, In}
use Rattle.ceu_tree.specs.Around.{Moved}
use Rattle.ceu_tree.specs.World.{World}
use Rattle.laws_meaning_basics.specs.Shape.{block_scope}
use Rattle.laws_meaning_basics.proofs.Static.{names_of}
use Rattle.laws_meaning_values.specs.Ready.{layer_has, conditions_have}
use Rattle.laws_machine_layout.specs.Views.{view}
use Rattle.ceu_shape.specs.Plans.{Plan, own_label, end_label}
use Rattle.ceu_shape.specs.Flow.{arms_lines, arm_ends, if_lines}
use Rattle.ceu_shape.specs.Searches.{node_of_block}
use Rattle.ceu_shape.specs.Shape.{labels_of, arm_count, arms_labels, block_labels, to_end, block_draft, arms_parts, parts_draft}
use Rattle.ceu_shape.specs.Words.{mark, goto, begin_of, end_of}
use Rattle.ceu_trail.specs.Built.{at_label, number, StatementBuilt}
use Rattle.ceu_trail.specs.Compiled.{Compiled}
use Rattle.ceu_trail.specs.Coming.{most_ticks, Comes}
use Rattle.ceu_trail.specs.Tables.{tables}
use Rattle.ceu_steps.specs.Premises.{BuiltLaws, ArmsPlaced, LayerPlaced}
use Rattle.ceu_steps.specs.Running.{trail_at}
use Rattle.ceu_steps.proofs.Comes.{no_marks}
use Rattle.ceu_steps.proofs.Frames.{opens_is}
use Rattle.ceu_steps.proofs.Turns.{AtStart, counts_stay, reached, among, fine, deep, positions}
use Rattle.ceu_steps.proofs.Unseen.{holds_unseen, unseen_numbers}
use Rattle.ceu_rounds.proofs.Spots.{StepDone}
use Rattle.ceu_ifs.proofs.Arms.{Labelled}
use Rattle.ceu_ifs.proofs.Conditions.{arms_ticks, Chosen, arms_short, arms_run}
use Rattle.ceu_ifs.proofs.Many.{comes_on_within, fault_within}
use denote.Hole.Carrier

-- many steps, but few for so few arms as fit into the code
few_arms : (count at size : ℕ) → at + 9 * count + 3 ≤ size → size ≤ 65535 → arms_ticks count ≤ most_ticks
few_arms count at size a b = omega (arith, a, b)

module _ (laws : BuiltLaws) (image : Image) (P : Plan) (width : ℕ → ℕ) (K : Kernel) (compiled : Compiled image P width K) where
  if_does : (n : ℕ) (p : Pos) (y : List (Unit {0})) (arms : Row_of-KArm _) (last : KBlock) (w : World) (a : Result KBlock (Fault × Pos))
      → let s : KNode = record { node = n; pos = p; stmt = If' y arms last } in
      chosen_part (items-the_row-KArm _ arms) last Program w ≡ a → acted K 0 Program (Start s) w ≡ or_fails a w (λ b. does.done (opened s b) w)
  unfolding out-KStmt Carrier.out
  if_does n p y arms last w a q =
      let s : KNode = record { node = n; pos = p; stmt = If' y arms last } in
      ap (λ (l : List KArm). or_fails (chosen_part l last Program w) w (λ b. does.done (opened s b) w)) (items_shown-the_row-KArm-0 y arms)
      ∙ ap (λ (x : Result KBlock (Fault × Pos)). or_fails x w (λ b. does.done (opened s b) w)) q

  if_has : (y : List (Unit {0})) (arms : Row_of-KArm _) (last : KBlock) (w : World) → layer_has Program w (out-KStmt (If' y arms last)) ≡ true → conditions_have Program w (items-the_row-KArm _ arms) ≡ true
  unfolding out-KStmt Carrier.out
  if_has y arms last w h = subst (λ (l : List KArm). conditions_have Program w l ≡ true) (items_shown-the_row-KArm-0 y arms) h

  if_placed : (p : Pos) (y : List (Unit {0})) (arms : Row_of-KArm _) (last : KBlock) → LayerPlaced image (number image P K) p (out-KStmt (If' y arms last)) → ArmsPlaced image (number image P K) (items-the_row-KArm _ arms)
  unfolding out-KStmt Carrier.out
  if_placed p y arms last h = subst (ArmsPlaced image (number image P K)) (items_shown-the_row-KArm-0 y arms) h

  if_deep : (y : List (Unit {0})) (arms : Row_of-KArm _) (last : KBlock) → stmt_depth (If' y arms last) ≡ max (arms_depth arms) (block_depth last)
  unfolding stmt_depth
  if_deep y arms last = refl

  if_ok : (sc : Scope) (n : ℕ) (y : List (Unit {0})) (arms : Row_of-KArm _) (last : KBlock) → stmt_ok K (names_of K) sc n (If' y arms last) ≡ true → arms_ok K (names_of K) sc arms ≡ true
  unfolding stmt_ok
  if_ok sc n y arms last h = (and_parts (outside_finalizers sc.place) (arms_ok K (names_of K) sc arms) (and_parts (outside_finalizers sc.place && arms_ok K (names_of K) sc arms) (block_ok K (names_of K) sc last) h).0).1

  -- ---- the lines

  record IfLines {k : _} (n : ℕ) (arms : Row_of-KArm k) (last : KBlock) : Type 0 where
    fresh : ℕ
    labels : Labels
    labelled : Labelled image (at_label image P K) labels 0 fresh arms last
    over : ℕ
    more : List Line
    lines : Placed image (at_label image P K) (at_label image P K (own_label n)) (arms_lines labels 0 over (arm_count arms) ++ (goto (begin_of labels (2 * arm_count arms)) ∷ more))
    next : ℕ
    begins : ℕ
    parts : Placed image (at_label image P K) begins ((arms_parts P K arms fresh next).lines (number image P K))

  built_lines : (n : ℕ) (p : Pos) (y : List (Unit {0})) (arms : Row_of-KArm _) (last : KBlock) → StatementBuilt image P K (record { node = n; pos = p; stmt = If' y arms last }) → IfLines n arms last
  unfolding parts_draft
  built_lines n p y arms last built =
      let own : ℕ = at_label image P K (own_label n) in
      let l : Labels = labels_of built.fresh n (If' y arms last) in
      let over : ℕ = built.fresh + 2 * arm_count arms in
      let next : ℕ = built.fresh + 2 * arm_count arms + arm_count arms in
      let ours : List Line = if_lines (arm_count arms) l over in
      let theirs : List Line = (parts_draft P K (If' y arms last) built.fresh next).lines (number image P K) in
      let end : List Line = mark (end_label n) ∷ [] in
      let whole = (parts_are_placed image (at_label image P K) own (ours ++ (theirs ++ end)) [] built.lines).0 in
      let split = parts_are_placed image (at_label image P K) own ours (theirs ++ end) whole in
      let parts = (parts_are_placed image (at_label image P K) (own + code_size ours) theirs end split.1).0 in
      let first =
      (parts_are_placed image (at_label image P K) (own + code_size ours) ((arms_parts P K arms built.fresh next).lines (number image P K))
      ((to_end P K last (block_draft P K last) (arms_parts P K arms built.fresh next).next).lines (number image P K)) parts).0 in
      record {
        fresh = built.fresh;
        labels = l;
        labelled = λ i. ap (λ (j : ℕ). slice_index (arms_labels built.fresh arms ++ block_labels last) j) (let q : 2 * 0 + i ≡ i = omega arith in q);
        over = over;
        more = arm_ends l 0 (arm_count arms) ++ (mark (end_of l (2 * arm_count arms)) ∷ goto l.next ∷ []);
        lines = split.0.1;
        next = next;
        begins = own + code_size ours;
        parts = first;
      }

  pub if_begins : (outer : List Frame) (turn : Bool) (sc : Scope) (b : KBlock) (done rest : List KNode) (n : ℕ) (p : Pos) (y : List (Unit {0})) (arms : Row_of-KArm _) (last : KBlock) (w : World) (at : ℕ) (m : Machine)
      → let s : KNode = record { node = n; pos = p; stmt = If' y arms last } in
      AtStart image P width K outer turn sc b done rest s w at m → StepDone image P width K (OfBlock b [] no_instance rest ∷ outer) (Start s) w at m
  if_begins outer turn sc b done rest n p y arms last w at m h =
      subst (λ (k : ℕ). StepDone image P width K (OfBlock b [] no_instance rest ∷ outer) (Start (record { node = n; pos = p; stmt = If' y arms last })) w k m) (sym h.stands.place)
      (by_answer (chosen_part (items-the_row-KArm _ arms) last Program w) refl
      (arms_run laws image P width K compiled h.spot w h.held lines.labels last arms 0 lines.fresh (2 * arm_count arms) lines.over lines.next lines.begins (at_label image P K (own_label n)) lines.more m h.stands.memory lines.labelled (omega arith) lines.lines lines.parts
      (if_ok (block_scope sc b) n y arms last (fine laws image P width K compiled h.spot)) (if_has y arms last w h.has) (let a = deep laws image P width K compiled h.spot in let q = if_deep y arms last in omega arith)
      (if_placed p y arms last (positions laws image P width K compiled h.spot))))
    where
      lines : IfLines n arms last
      lines = built_lines n p y arms last (among laws image P width K compiled h.spot).built

      few : arms_ticks (arm_count arms) ≤ most_ticks
      few =
          few_arms (arm_count arms) (at_label image P K (own_label n)) (length image.code)
          (arms_short image P width K lines.labels (arm_count arms) 0 lines.over (at_label image P K (own_label n)) (begin_of lines.labels (2 * arm_count arms)) lines.more lines.lines) compiled.short

      by_answer : (a : Result KBlock (Fault × Pos)) → chosen_part (items-the_row-KArm _ arms) last Program w ≡ a → Chosen image P width K (arms_ticks (arm_count arms)) m (at_label image P K (own_label n)) a
          → StepDone image P width K (OfBlock b [] no_instance rest ∷ outer) (Start (record { node = n; pos = p; stmt = If' y arms last })) w (at_label image P K (own_label n)) m
      by_answer (Ok c) q x =
          let s : KNode = record { node = n; pos = p; stmt = If' y arms last } in
          let frames : List Frame = OfBlock b [] no_instance rest ∷ outer in
          subst (λ (v : Moved). Comes image P width K w (trail_at image (at_label image P K (own_label n)) 0) m v.outcome v.world)
          (sym (opens_is (Start s) w w (In (OfOpen s) (Here (Begin c))) (reached laws image P width K compiled h.spot) (if_does n p y arms last w (Ok c) q)))
          (comes_on_within image P width K frames (OfOpen s) (Begin c) w w m (rewritten x.after m) (at_label image P K (own_label n)) (at_label image P K (own_label (node_of_block c))) (arms_ticks (arm_count arms)) few x.runs (no_marks w m x.after)
          (record {
            memory = holds_unseen image P width K w m.bytes x.after x.unseen h.stands.memory;
            counts = (tt, counts_stay (tables P width K) image (view image m.bytes) (view image x.after) frames (unseen_numbers image m.bytes x.after x.unseen) h.stands.counts);
            place = refl;
          }))
      by_answer (Err e) q x =
          fault_within image P width K (Start (record { node = n; pos = p; stmt = If' y arms last })) w m (at_label image P K (own_label n)) (arms_ticks (arm_count arms)) e few (reached laws image P width K compiled h.spot)
          (if_does n p y arms last w (Err e) q) x
