-- Instructions of a loop over a range: an end is taken from the first cell, and the head takes the next value or leaves.
use Rattle.std.proofs.Common.{◌≡◌, refl, ap, ◌∙◌, ◌<◌, ◌≤◌, ℕ, ◌+◌, ℤ, pos, Bool, true, false, [], Option, Some, arith}
use Rattle.std.specs.Prelude.{◌+ℤ◌, int_lt, ◌&&◌, if◌then◌else◌}
use Rattle.std.proofs.lemmas.Bool.{le-leb, and_from}
use Rattle.ceu_base.specs.declared.kinds.Ty.TheVariants as ty
use Rattle.ceu_base.specs.Values.{IsValue, is_value}
use Rattle.ceu_code.specs.declared.image.Image.{Image}
use Rattle.ceu_code.specs.declared.instr.Instr.TheVariants as instr
use Rattle.ceu_code.specs.Instructions.{cell}
use Rattle.ceu_mem.specs.Bytes.{number_at}
use Rattle.ceu_mem.specs.Memory.{value_at, with_value}
use Rattle.ceu_isa.specs.Layout.{cell_at, slots_at, end_of, in_slots}
use Rattle.ceu_isa.specs.Fetching.{fetched}
use Rattle.ceu_isa.specs.Effects.{Effect, Goes, provided, for_some}
use Rattle.ceu_isa.specs.Rows.{effect}
use Rattle.ceu_isa.specs.Slots.{bound_value, next_taken}
use Rattle.ceu_isa.specs.Cells.{Popped}
use Rattle.ceu_isa.specs.Turns.{Machine, Trail, rewritten}
use Rattle.ceu_steps.specs.Running.{Runs, trail_at}
use Rattle.ceu_steps.proofs.Lines.{line_runs}
use Rattle.laws_machine_code.proofs.Steps.{pops}

-- so many bytes lie in the slots
lies_in : (image : Image) (o k : ℕ) → slots_at image + o + k ≤ end_of image → in_slots image (slots_at image + o) k ≡ true
lies_in image o k room = and_from _ _ (le-leb (slots_at image) (slots_at image + o) (omega arith)) (le-leb (slots_at image + o + k) (end_of image) room)

-- ---- an end is put into its slot

pub bound_runs : {image : Image} {at : ℕ} {m : Machine} (o d : ℕ) (v : ℤ) → fetched image at ≡ Some (instr.RangeBound o d) → IsValue ty.S64 v → is_value ty.S64 (bound_value v d) ≡ true → number_at 8 m.bytes (cell_at 0) ≡ cell v → 0 < image.depth
    → slots_at image + o + 8 ≤ end_of image → Runs image 1 (Trail (trail_at image at 1) m) (Trail (trail_at image (at + 4) 0) (rewritten (with_value ty.S64 (bound_value v d) m.bytes (slots_at image + o)) m))
unfolding effect
bound_runs {image = image} {at = at} {m = m} o d v f valued fits holds lt room =
    line_runs (instr.RangeBound o d) (trail_at image (at + 4) 0) (with_value ty.S64 (bound_value v d) m.bytes (slots_at image + o)) f
    (ap (λ (x : Option Popped). for_some x (λ a. provided (in_slots image (slots_at image + o) 8 && is_value ty.S64 (bound_value a.value d)) (Goes a.registers (with_value ty.S64 (bound_value a.value d) m.bytes (slots_at image + o)) [])))
    (pops image ty.S64 v 0 (trail_at image (at + 4) 1) m.bytes (λ e. absurd (cc)) valued holds lt refl)
    ∙ ap (λ (b : Bool). provided b (Goes (trail_at image (at + 4) 0) (with_value ty.S64 (bound_value v d) m.bytes (slots_at image + o)) [])) (and_from _ _ (lies_in image o 8 room) fits))

-- ---- the head

module _ (image : Image) (at : ℕ) (m : Machine) (o i to : ℕ) (next last : ℤ) (f : fetched image at ≡ Some (instr.RangeNext o i to)) (room : slots_at image + o + 16 ≤ end_of image)
    (next_is : value_at ty.S64 m.bytes (slots_at image + o) ≡ next) (last_is : value_at ty.S64 m.bytes (slots_at image + o + 8) ≡ last) where
  abbrev behind : Effect
  behind = Goes (trail_at image to 0) m.bytes []

  abbrev taken : ℤ → Effect
  taken x = next_taken image (slots_at image + o) (slots_at image + i) x (trail_at image (at + 7) 0) m.bytes

  head_effect : effect image (instr.RangeNext o i to) (trail_at image (at + 7) 0) m.bytes ≡ (if int_lt last next then behind else taken next)
  unfolding effect
  head_effect =
      ap (λ (b : Bool). provided b (if int_lt (value_at ty.S64 m.bytes (slots_at image + o + 8)) (value_at ty.S64 m.bytes (slots_at image + o)) then behind else taken (value_at ty.S64 m.bytes (slots_at image + o)))) (lies_in image o 16 room)
      ∙ ap (λ (x : ℤ). if int_lt x (value_at ty.S64 m.bytes (slots_at image + o)) then behind else taken (value_at ty.S64 m.bytes (slots_at image + o))) last_is
      ∙ ap (λ (x : ℤ). if int_lt last x then behind else taken x) next_is

  -- the next value is over the end: the loop is over
  pub range_leaves : int_lt last next ≡ true → Runs image 1 (Trail (trail_at image at 0) m) (Trail (trail_at image to 0) (rewritten m.bytes m))
  range_leaves e = line_runs (instr.RangeNext o i to) (trail_at image to 0) m.bytes f (head_effect ∙ ap (λ (b : Bool). if b then behind else taken next) e)

  -- the variable takes the next value, and that grows by one
  pub range_goes : int_lt last next ≡ false → slots_at image + i + 4 ≤ end_of image → is_value ty.S32 next ≡ true → is_value ty.S64 (next +ℤ pos 1) ≡ true
      → Runs image 1 (Trail (trail_at image at 0) m) (Trail (trail_at image (at + 7) 0) (rewritten (with_value ty.S64 (next +ℤ pos 1) (with_value ty.S32 next m.bytes (slots_at image + i)) (slots_at image + o)) m))
  range_goes e space small more =
      line_runs (instr.RangeNext o i to) (trail_at image (at + 7) 0) (with_value ty.S64 (next +ℤ pos 1) (with_value ty.S32 next m.bytes (slots_at image + i)) (slots_at image + o)) f
      (head_effect ∙ ap (λ (b : Bool). if b then behind else taken next) e
      ∙ ap (λ (b : Bool). provided b (Goes (trail_at image (at + 7) 0) (with_value ty.S64 (next +ℤ pos 1) (with_value ty.S32 next m.bytes (slots_at image + i)) (slots_at image + o)) [])) (and_from _ _ (and_from _ _ (lies_in image i 4 space) small) more))
