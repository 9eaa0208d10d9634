-- The operands of a kernel's code are in range, so its lines stand in its image.
use Rattle.std.proofs.Common.{refl, ℕ, zero, suc, ◌+◌, ◌^◌, ◌<◌, ◌≤◌, Bool, true, false, if◌then◌else◌, List, [], ◌∷◌, length, arith}
use Rattle.std.specs.List.{AllByRecursion}
use Rattle.ceu_base.specs.declared.kinds.Pos.{Pos}
use Rattle.ceu_tree.specs.declared.kernel.Kernel.{Kernel}
use Rattle.ceu_tree.specs.Needs.{slots, entry, greatest_of, frames_from}
use Rattle.ceu_asm.specs.declared.line.Line.{Line}
use Rattle.ceu_asm.specs.declared.line.Line.TheVariants.{Mark, Plain, Jump}
use Rattle.ceu_asm.specs.Lines.{is_mark, line_size, code_size, offset_of, resolved}
use Rattle.ceu_asm.specs.Places.{same_place, number_of}
use Rattle.ceu_asm.specs.Whole.{IsInRange}
use Rattle.laws_machine_code.proofs.Lines.{lines_are_placed}
use Rattle.ceu_slots.specs.Layout.{frame_of_code}
use Rattle.ceu_shape.specs.Plans.{Plan}
use Rattle.ceu_shape.specs.Pieces.{numbered}
use Rattle.ceu_shape.specs.Shape.{first_fresh, kernel_piece, shape_positions, shape_lines, shape}
use Rattle.laws_code_placed.specs.Fits.{PlanFits, MadePlansFit}
use Rattle.laws_code_placed.specs.There.{KernelThere}
use Rattle.laws_code_placed.specs.Laws.{OperandsAreInRange, ShapeIsPlaced}
use Rattle.laws_code_placed.proofs.AllThere.{names_there}
use Rattle.laws_code_placed.proofs.Counted.{kernel_counts}
use Rattle.laws_code_placed.proofs.Few.{short_code, few_positions}
use Rattle.laws_code_placed.proofs.Ranged.{Ranged, Numbers}
use Rattle.laws_code_placed.proofs.RangedParts.{kernel_fine}
use Rattle.laws_code_placed.proofs.Whole.{mark_none_twice}

offset_within : (label : ℕ) (ls : List Line) → offset_of label ls ≤ code_size ls
offset_within label [] = omega arith
offset_within label (x ∷ ls) = go (is_mark label x) (offset_within label ls)
  where
    go : (b : Bool) → offset_of label ls ≤ code_size ls → (if b then 0 else (line_size x + offset_of label ls)) ≤ line_size x + code_size ls
    go true h = omega arith
    go false h = omega arith

number_within : (p : Pos) (ps : List Pos) → number_of p ps ≤ length ps
number_within p [] = omega arith
number_within p (q ∷ qs) = go (same_place q p) (number_within p qs)
  where
    go : (b : Bool) → number_of p qs ≤ length qs → (if b then 0 else (number_of p qs + 1)) ≤ suc (length qs)
    go true h = omega arith
    go false h = omega arith

resolved_ranged : (at : ℕ → ℕ) (ls : List Line) → Ranged at ls → AllByRecursion IsInRange (resolved at ls)
resolved_ranged at [] h = tt
resolved_ranged at (Mark l ∷ ls) h = resolved_ranged at ls h.1
resolved_ranged at (Plain i ∷ ls) h = (h.0, resolved_ranged at ls h.1)
resolved_ranged at (Jump i l ∷ ls) h = (h.0, resolved_ranged at ls h.1)

module _ (P : Plan) (K : Kernel) (fits : PlanFits P K) (there : KernelThere P K) where
  numbers : Numbers P K (λ l. offset_of l (shape_lines P K)) (numbered (shape_positions P K))
  numbers =
      let light = fits.light in
      let counts = kernel_counts K in
      let lines : List Line = shape_lines P K in
      record {
        labels = λ l. small_label l;
        positions = λ p. small_position p;
        slots = λ slot low. (let h = there.slots slot low in omega (arith, h));
        firsts = λ node low. (let h = there.firsts node low in omega (arith, h));
        counts = λ node low. (let h = there.counts node low in omega (arith, h));
        inputs = omega (arith, counts.inputs, light);
        outputs = omega (arith, counts.outputs, light);
        events = omega (arith, counts.events, light);
        codes = omega (arith, counts.codes, light);
        pools = omega (arith, counts.pools, light);
      }
    where
      small_label : (l : ℕ) → offset_of l (shape_lines P K) < 2 ^ 16
      small_label l = let light = fits.light in omega (arith, offset_within l (shape_lines P K), short_code P K, light)

      small_position : (p : Pos) → numbered (shape_positions P K) p < 2 ^ 16
      small_position p = let light = fits.light in omega (arith, number_within p (shape_positions P K), few_positions P K, light)

pub operands_in_range : OperandsAreInRange
unfolding shape_lines kernel_piece
operands_in_range P K proper fits =
    let there = names_there P K proper fits in
    let at : ℕ → ℕ = λ (l : ℕ). offset_of l (shape_lines P K) in
    let number : Pos → ℕ = numbered (shape_positions P K) in
    let fine = kernel_fine P K at number (numbers P K fits there) there in
    resolved_ranged at (shape_lines P K) (fine.ranged (first_fresh K))

pub shape_placed : ShapeIsPlaced
unfolding shape
shape_placed P K turns levels proper fits = lines_are_placed (shape P K turns levels) (shape_lines P K) refl (operands_in_range P K proper fits) (mark_none_twice P K proper)

-- ---- the plans that are made

entry_within : (k : ℕ) (xs : List ℕ) → entry k xs ≤ greatest_of xs
entry_within k [] = omega arith
entry_within zero (x ∷ xs) = omega arith
entry_within (suc k) (x ∷ xs) = omega (arith, entry_within k xs)

frames_within : (plain : Bool) (K : Kernel) (code : ℕ) → frame_of_code plain K code ≤ slots plain K
unfolding slots
frames_within plain K code = omega (arith, entry_within code (frames_from plain [] K.codes))

pub made_plans_fit : MadePlansFit
made_plans_fit plain K p firsts counts light few gates lawful places first count = record {
  size = p.size;
  kept = lawful.kept;
  few_bytes = (let whole = places.whole in omega (arith, whole, few));
  small_frames = λ code. (let frame = places.frames code in omega (arith, frame, frames_within plain K code, few));
  firsts = λ node low. first.each node (let long = first.one_each in omega (arith, long, low));
  counts = λ node low. count.each node (let long = count.one_each in omega (arith, long, low));
  few_gates = gates;
  light = light;
}
