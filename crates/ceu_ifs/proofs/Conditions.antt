-- The conditions of an if, one behind the other: the trail comes to the block of the first arm whose condition is true, or to the last block, or the program
-- has faulted.
use Rattle.std.proofs.Common.{◌≡◌, refl, sym, ap, ◌∙◌, subst, ◌<◌, ◌≤◌, ℕ, zero, suc, ◌+◌, ◌*◌, max, ℤ, pos, Bool, true, false, List, [], ◌∷◌, ◌++◌, length, Option, Some, Result, Ok, Err, slice_index, arith}
use Rattle.std.specs.Prelude.{◌&&◌, if◌then◌else◌}
use Rattle.std.proofs.lemmas.Bool.{and_parts}
use Rattle.ceu_base.specs.declared.kinds.Fault.{Fault}
use Rattle.ceu_base.specs.declared.kinds.Pos.{Pos}
use Rattle.ceu_base.specs.declared.kinds.Ty.TheVariants as ty
use Rattle.ceu_base.specs.Values.{IsValue, same}
use Rattle.ceu_code.specs.declared.image.Image.{Image}
use Rattle.ceu_code.specs.declared.instr.Instr.TheVariants as instr
use Rattle.ceu_code.specs.Instructions.{cell}
use Rattle.ceu_asm.specs.declared.line.Line.{Line}
use Rattle.ceu_asm.specs.declared.line.Labels.{Labels}
use Rattle.ceu_asm.specs.Lines.{code_size}
use Rattle.ceu_mem.specs.Bytes.{number_at}
use Rattle.ceu_isa.specs.declared.registers.Registers.{Registers}
use Rattle.ceu_isa.specs.Cells.{Popped}
use Rattle.ceu_isa.specs.Effects.{Goes, for_some}
use Rattle.ceu_isa.specs.Fetching.{fetched}
use Rattle.ceu_isa.specs.Layout.{cell_at}
use Rattle.ceu_isa.specs.Rows.{effect}
use Rattle.ceu_isa.specs.Turns.{Machine, Trail, rewritten}
use Rattle.laws_machine_code.specs.Placed.{Placed}
use Rattle.laws_machine_code.proofs.Lines.{parts_are_placed}
use Rattle.laws_machine_code.specs.Seen.{NodePlaced}
use Rattle.laws_machine_code.proofs.Steps.{pops}
use Rattle.laws_machine_code.proofs.Works.{bool_some}
use Rattle.ceu_tree.specs.declared.kernel.Kernel.{Kernel}
use Rattle.ceu_tree.specs.declared.kernel.KArm.{KArm', out-KArm}
use Rattle.ceu_tree.specs.declared.kernel.KExp.{KExp}
use Rattle.ceu_tree.specs.declared.kernel.KBlock.{KBlock}
use Rattle.ceu_tree.specs.declared.kernel.KNode.{KNode}
use Rattle.ceu_tree.specs.declared.kernel.KStmt.{Row_of-KArm, end_of-KArm, more_of-KArm, items-the_row-KArm}
use Rattle.ceu_tree.specs.Depth.{exp_depth, block_depth, arms_depth}
use Rattle.ceu_tree.specs.Expressions.{Answer, value_of}
use Rattle.ceu_tree.specs.Leaf.{chosen_part}
use Rattle.ceu_tree.specs.Proper.{Scope, reads, asks, gives, block_ok, arm_ok, arms_ok}
use Rattle.ceu_tree.specs.Residual.{Program, no_instance}
use Rattle.ceu_tree.specs.Focus.{Frame, OfBlock}
use Rattle.ceu_tree.specs.Typing.{typed, holds_all}
use Rattle.ceu_tree.specs.World.{World}
use Rattle.laws_meaning_basics.specs.Shape.{block_scope}
use Rattle.laws_meaning_basics.proofs.Static.{names_of}
use Rattle.laws_meaning_values.specs.Ready.{exp_has, conditions_have}
use Rattle.ceu_shape.specs.Plans.{Plan, own_label}
use Rattle.ceu_shape.specs.Flow.{arms_lines}
use Rattle.ceu_shape.specs.Searches.{node_of_block}
use Rattle.ceu_shape.specs.Shape.{arm_count, exp_part, to_end, block_draft, arm_parts, arms_parts}
use Rattle.ceu_shape.specs.Words.{goto, begin_of, end_of}
use Rattle.ceu_trail.specs.Built.{at_label, number}
use Rattle.ceu_trail.specs.Compiled.{Compiled}
use Rattle.ceu_trail.specs.Turning.{MemoryHolds}
use Rattle.ceu_trail.specs.Within.{ValuesWithin}
use Rattle.ceu_within.proofs.Leaf.{given_value}
use Rattle.ceu_steps.specs.Live.{vars_in}
use Rattle.ceu_steps.specs.Premises.{BuiltLaws, ArmsPlaced}
use Rattle.ceu_steps.specs.Ready.{Breaks, Evaluated}
use Rattle.ceu_steps.specs.Running.{Runs, Unseen, trail_at}
use Rattle.ceu_steps.proofs.Expressions.{expression_runs}
use Rattle.ceu_steps.proofs.Lines.{line_runs, goto_runs, lies_in}
use Rattle.ceu_steps.proofs.Ticks.{onward, wider}
use Rattle.ceu_steps.proofs.Turns.{Standing, some_gate, scene, cells, is_ready}
use Rattle.ceu_steps.proofs.Unseen.{unseen_itself, unseen_then, holds_unseen}
use Rattle.ceu_ifs.proofs.Arms.{Labelled}
use denote.Hole.Carrier

-- ---- a test of the first cell

test_effect : (image : Image) (to : ℕ) (v : ℤ) (s : Registers) (bytes : List ℕ) → IsValue ty.Bool v → number_at 8 bytes (cell_at 0) ≡ cell v → 0 < image.depth → s.depth ≡ 1
    → effect image (instr.JumpIfFalse to) s bytes ≡ Goes (if same v (pos 0) then record s { at = to; depth = 0 } else record s { depth = 0 }) bytes []
unfolding effect
test_effect image to v s bytes is_value holds some deep =
    ap (λ (o : Option Popped). for_some o (λ a. Goes (if same a.value (pos 0) then record a.registers { at = to } else a.registers) bytes [])) (pops image ty.Bool v 0 s bytes (bool_some ty.Bool refl) is_value holds some deep)

-- where it is false the trail goes to a place, else on
test_runs : {image : Image} {m : Machine} (at to : ℕ) (v : ℤ) (z : Bool) → fetched image at ≡ Some (instr.JumpIfFalse to) → IsValue ty.Bool v → number_at 8 m.bytes (cell_at 0) ≡ cell v → 0 < image.depth → same v (pos 0) ≡ z
    → Runs image 1 (Trail (trail_at image at 1) m) (Trail (trail_at image (if z then to else (at + 3)) 0) m)
test_runs {image = image} {m = m} at to v true f is_value holds some e =
    line_runs (instr.JumpIfFalse to) (trail_at image to 0) m.bytes f
    (test_effect image to v (trail_at image (at + 3) 1) m.bytes is_value holds some refl ∙ ap (λ (z : Bool). Goes (if z then trail_at image to 0 else trail_at image (at + 3) 0) m.bytes []) e)
test_runs {image = image} {m = m} at to v false f is_value holds some e =
    line_runs (instr.JumpIfFalse to) (trail_at image (at + 3) 0) m.bytes f
    (test_effect image to v (trail_at image (at + 3) 1) m.bytes is_value holds some refl ∙ ap (λ (z : Bool). Goes (if z then trail_at image to 0 else trail_at image (at + 3) 0) m.bytes []) e)

-- ---- what the conditions come to

-- steps for so many arms, at most
abbrev pub arms_ticks : ℕ → ℕ
arms_ticks count = 65541 * count + 1

module _ (image : Image) (P : Plan) (width : ℕ → ℕ) (K : Kernel) where
  -- the trail is at the begin of a block
  pub record ToBlock (n : ℕ) (m : Machine) (at : ℕ) (b : KBlock) : Type 0 where
    pub after : List ℕ
    pub runs : Runs image n (Trail (trail_at image at 0) m) (Trail (trail_at image (at_label image P K (own_label (node_of_block b))) 0) (rewritten after m))
    pub unseen : Unseen image m.bytes after

  abbrev pub Chosen : (n : ℕ) → Machine → (at : ℕ) → Result KBlock (Fault × Pos) → Type 0
  Chosen n m at (Ok b) = ToBlock n m at b
  Chosen n m at (Err e) = Breaks image n (Trail (trail_at image at 0) m) m e

  -- behind steps that leave what is seen
  chosen_later : (k n most : ℕ) (m : Machine) (at to : ℕ) (after : List ℕ) (a : Result KBlock (Fault × Pos)) → k + n ≤ most → Unseen image m.bytes after → Runs image k (Trail (trail_at image at 0) m) (Trail (trail_at image to 0) (rewritten after m))
      → Chosen n (rewritten after m) to a → Chosen most m at a
  chosen_later k n most m at to after (Ok b) le u r c = record { after = c.after; runs = wider le (onward r c.runs); unseen = unseen_then image m.bytes after c.after u c.unseen }
  chosen_later k n most m at to after (Err e) le u r c = record { after = c.after; runs = wider le (onward r c.runs); marks = c.marks }

  -- the tests of one arm: its condition has been evaluated, and where it is false others follow
  arm_runs : (m : Machine) (at n most : ℕ) (x : KBlock) (others : Result KBlock (Fault × Pos)) → 65541 + n ≤ most → 1 ≤ n → 0 < image.depth → fetched image (at + 3) ≡ Some (instr.JumpIfFalse (at + 3 + 3 + 3))
      → fetched image (at + 3 + 3) ≡ Some (instr.Jump (at_label image P K (own_label (node_of_block x)))) → (a : Answer) → ((v : ℤ) → a ≡ Ok v → IsValue ty.Bool v) → Evaluated image m at a
      → ((after : List ℕ) → Unseen image m.bytes after → Chosen n (rewritten after m) (at + 3 + 3 + 3) others)
      → Chosen most m at (elim a [ Ok v ↦ if same v (pos 0) then others else Ok x | Err e ↦ Err e ])
  arm_runs m at n most x others le one some test into (Err e) is_test y further = record { after = y.after; runs = wider (omega arith) y.runs; marks = y.marks }
  arm_runs m at n most x others le one some test into (Ok v) is_test y further = go (same v (pos 0)) refl
    where
      go : (z : Bool) → same v (pos 0) ≡ z → Chosen most m at (if z then others else Ok x)
      go true e =
          chosen_later 65541 n most m at (at + 3 + 3 + 3) y.after others (omega arith) y.unseen
          (onward y.runs (test_runs {m = rewritten y.after m} (at + 3) (at + 3 + 3 + 3) v true test (is_test v refl) y.holds some e)) (further y.after y.unseen)
      go false e = record {
        after = y.after;
        runs =
            wider (omega arith)
            (onward y.runs (onward (test_runs {m = rewritten y.after m} (at + 3) (at + 3 + 3 + 3) v false test (is_test v refl) y.holds some e) (goto_runs {m = rewritten y.after m} (at_label image P K (own_label (node_of_block x))) into)));
        unseen = y.unseen;
      }

  -- the lines of the arms lie in the code
  pub arms_short : (l : Labels) (count k over at x : ℕ) (more : List Line) → Placed image (at_label image P K) at (arms_lines l k over count ++ (goto x ∷ more)) → at + 9 * count + 3 ≤ length image.code
  arms_short l zero k over at x more h = let a = lies_in image at (instr.Jump (at_label image P K x)) h.0 in omega (arith, a)
  arms_short l (suc count) k over at x more h = let a = arms_short l count (k + 2) (over + 1) (at + 3 + 3 + 3) x more h.1.1.1.1.1 in omega (arith, a)

module _ (laws : BuiltLaws) (image : Image) (P : Plan) (width : ℕ → ℕ) (K : Kernel) (compiled : Compiled image P width K) where
  given_typed : (sc : Scope) (c : KExp) → gives K sc ty.Bool c ≡ true → typed (reads K sc) (asks K sc) c ≡ true
  given_typed sc c h = (and_parts (typed (reads K sc) (asks K sc) c) (holds_all ty.Bool c.ty) (and_parts (typed (reads K sc) (asks K sc) c && holds_all ty.Bool c.ty) _ h).0).0

  module _ {outer : List Frame} {turn : Bool} {sc : Scope} {b : KBlock} {done rest : List KNode} {s : KNode} (spot : Standing K outer turn sc b done rest s) (w : World) (held : ValuesWithin (vars_in (OfBlock b [] no_instance rest ∷ outer)) w) (l : Labels) (last : KBlock) where
    -- a condition
    evaluated : (m : Machine) (c : KExp) (begin fresh at place : ℕ) → MemoryHolds image P width K w m.bytes → gives K (block_scope sc b) ty.Bool c ≡ true → exp_has Program w c ≡ true → exp_depth c ≤ image.depth → NodePlaced image (number image P K) c.node c.pos
        → fetched image at ≡ Some (instr.Jump (at_label image P K begin)) → at_label image P K (begin + 1) ≡ at + 3 → Placed image (at_label image P K) place ((exp_part P K begin c fresh).lines (number image P K)) → Evaluated image m at (value_of c Program w)
    evaluated m c begin fresh at place holds may has few named goes back part =
        expression_runs image P width K w m c begin fresh at place holds (some_gate laws image P width K compiled spot)
        (is_ready laws image P width K compiled spot w m.bytes c held holds (given_typed (block_scope sc b) c may) has few named) goes back part

    pub arms_run : {n : _} (rows : Row_of-KArm n) (k fresh z over next place at : ℕ) (more : List Line) (m : Machine) → MemoryHolds image P width K w m.bytes → Labelled image (at_label image P K) l k fresh rows last → z ≡ k + 2 * arm_count rows
        → Placed image (at_label image P K) at (arms_lines l k over (arm_count rows) ++ (goto (begin_of l z) ∷ more)) → Placed image (at_label image P K) place ((arms_parts P K rows fresh next).lines (number image P K))
        → arms_ok K (names_of K) (block_scope sc b) rows ≡ true → conditions_have Program w (items-the_row-KArm n rows) ≡ true → arms_depth rows ≤ image.depth → ArmsPlaced image (number image P K) (items-the_row-KArm n rows)
        → Chosen image P width K (arms_ticks (arm_count rows)) m at (chosen_part (items-the_row-KArm n rows) last Program w)
    unfolding arms_parts arms_ok arms_depth out-KArm Carrier.out
    arms_run end_of-KArm k fresh z over next place at more m holds labelled e lines parts may has few named =
        let there : begin_of l z ≡ own_label (node_of_block last) = ap (λ (i : ℕ). slice_index l.parts i) (let x : 2 * z ≡ 2 * k + 0 = omega (arith, e) in x) ∙ labelled 0 in
        record {
          after = m.bytes;
          runs = goto_runs {m = m} (at_label image P K (own_label (node_of_block last))) (subst (λ (j : ℕ). fetched image at ≡ Some (instr.Jump (at_label image P K j))) there lines.0);
          unseen = unseen_itself image m.bytes holds.are_bytes;
        }
    arms_run (more_of-KArm (KArm' c x) rows) k fresh z over next place at more m holds labelled e lines parts may has few named =
        let begin : begin_of l k ≡ fresh = ap (λ (i : ℕ). slice_index l.parts i) (let q : 2 * k ≡ 2 * k + 0 = omega arith in q) ∙ labelled 0 in
        let end : end_of l k ≡ fresh + 1 = labelled 1 in
        let body : begin_of l (k + 1) ≡ own_label (node_of_block x) = ap (λ (i : ℕ). slice_index l.parts i) (let q : 2 * (k + 1) ≡ 2 * k + 2 = omega arith in q) ∙ labelled 2 in
        let own = parts_are_placed image (at_label image P K) place ((arm_parts P K (KArm' c x) fresh next).lines (number image P K)) ((arms_parts P K rows (fresh + 2) (arm_parts P K (KArm' c x) fresh next).next).lines (number image P K)) parts in
        let first = parts_are_placed image (at_label image P K) place ((exp_part P K fresh c next).lines (number image P K)) ((to_end P K x (block_draft P K x) (exp_part P K fresh c next).next).lines (number image P K)) own.0 in
        let fine = and_parts (arm_ok K (names_of K) (block_scope sc b) (KArm' c x)) (arms_ok K (names_of K) (block_scope sc b) rows) may in
        let has_all = and_parts (exp_has Program w c) (conditions_have Program w (items-the_row-KArm _ rows)) has in
        let may_be : gives K (block_scope sc b) ty.Bool c ≡ true = (and_parts (gives K (block_scope sc b) ty.Bool c) (block_ok K (names_of K) (block_scope sc b) x) fine.0).0 in
        let few_cells : max (max (exp_depth c) (block_depth x)) (arms_depth rows) ≤ image.depth = few in
        let sn = scene laws image P width K compiled spot in
        arm_runs image P width K m at (arms_ticks (arm_count rows)) (arms_ticks (suc (arm_count rows))) x (chosen_part (items-the_row-KArm _ rows) last Program w) (omega arith) (omega arith) (cells laws image P width K compiled spot)
        (subst (λ (j : ℕ). fetched image (at + 3) ≡ Some (instr.JumpIfFalse j)) lines.1.1.1.1.0 lines.1.1.0)
        (subst (λ (j : ℕ). fetched image (at + 3 + 3) ≡ Some (instr.Jump (at_label image P K j))) body lines.1.1.1.0)
        (value_of c Program w) (given_value K (block_scope sc b) (vars_in (OfBlock b [] no_instance rest ∷ outer)) sn.scope sn.once w held ty.Bool c may_be)
        (evaluated m c fresh next at place holds may_be has_all.0 (omega (arith, few_cells)) named.0 (subst (λ (j : ℕ). fetched image at ≡ Some (instr.Jump (at_label image P K j))) begin lines.0)
        (ap (at_label image P K) (sym end) ∙ lines.1.0) first.0)
        (λ after unseen.
        arms_run rows (k + 2) (fresh + 2) z (over + 1) (arm_parts P K (KArm' c x) fresh next).next (place + code_size ((arm_parts P K (KArm' c x) fresh next).lines (number image P K))) (at + 3 + 3 + 3) more (rewritten after m)
        (holds_unseen image P width K w m.bytes after unseen holds)
        (λ i. ap (λ (j : ℕ). slice_index l.parts j) (let y : 2 * (k + 2) + i ≡ 2 * k + suc (suc (suc (suc i))) = omega arith in y) ∙ labelled (suc (suc (suc (suc i)))))
        (omega (arith, e)) lines.1.1.1.1.1 own.1 fine.1 has_all.1 (omega (arith, few_cells)) named.1)
