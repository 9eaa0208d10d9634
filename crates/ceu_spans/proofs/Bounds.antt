-- The numbers of a loop over a range: its ends, the next value and the last one are values of 64 bits, and are read from the memory as they were written.
use Rattle.std.proofs.Common.{◌≡◌, sym, ap, ◌∙◌, ◌≤◌, ℕ, ◌+◌, ◌-◌, ◌%◌, ◌^◌, ℤ, pos, Bool, true, false, List, arith}
use Rattle.std.specs.Prelude.{◌+ℤ◌, ◌-ℤ◌, int_lt, if◌then◌else◌}
use Rattle.std.proofs.lemmas.Bool.{le-leb, and_from}
use Rattle.std.proofs.lemmas.Int.{ints}
use Rattle.ceu_base.specs.declared.kinds.Ty.TheVariants as ty
use Rattle.ceu_base.specs.Values.{IsValue, of_test}
use Rattle.ceu_code.specs.declared.image.Image.{Image}
use Rattle.ceu_code.specs.Instructions.{cell}
use Rattle.ceu_mem.specs.Bytes.{number_at}
use Rattle.ceu_mem.specs.Memory.{value_at, with_sign}
use Rattle.ceu_isa.specs.Layout.{slots_at, end_of, in_slots}
use Rattle.ceu_isa.specs.Slots.{bound_value}
use Rattle.laws_meaning_values.proofs.Ranges.{Within, within, value_from}
use Rattle.ceu_shape.specs.Flow.{one_if}
use Rattle.laws_machine_layout.proofs.Gates.{cell_small}
use Rattle.laws_machine_layout.specs.Views.{slot_number}
use Rattle.ceu_trail.specs.Within.{CountsWithin}
use Rattle.ceu_steps.proofs.Numbers.{value_back}

-- ---- ends

-- every int is a value of 64 bits, and so is what the machine makes of an end
pub longer : (v : ℤ) → IsValue ty.S32 v → IsValue ty.S64 v
longer v h = let a = within ty.S32 v h in value_from ty.S64 v (omega (arith, ints, a.low)) (omega (arith, ints, a.high))

pub first_is : (v : ℤ) (is_open : Bool) → bound_value v (1 + one_if is_open) ≡ v +ℤ of_test is_open
first_is v true = omega (arith, ints)
first_is v false = omega (arith, ints)

pub last_is : (v : ℤ) (is_open : Bool) → bound_value v (1 - one_if is_open) ≡ v -ℤ of_test is_open
last_is v true = omega (arith, ints)
last_is v false = omega (arith, ints)

pub first_fits : (v : ℤ) (is_open : Bool) → IsValue ty.S32 v → IsValue ty.S64 (bound_value v (1 + one_if is_open))
first_fits v is_open h = go is_open (within ty.S32 v h)
  where
    go : (is_open : Bool) → Within ty.S32 v → IsValue ty.S64 (bound_value v (1 + one_if is_open))
    go true a = value_from ty.S64 (bound_value v 2) (omega (arith, ints, a.low)) (omega (arith, ints, a.high))
    go false a = value_from ty.S64 (bound_value v 1) (omega (arith, ints, a.low)) (omega (arith, ints, a.high))

pub last_fits : (v : ℤ) (is_open : Bool) → IsValue ty.S32 v → IsValue ty.S64 (bound_value v (1 - one_if is_open))
last_fits v is_open h = go is_open (within ty.S32 v h)
  where
    go : (is_open : Bool) → Within ty.S32 v → IsValue ty.S64 (bound_value v (1 - one_if is_open))
    go true a = value_from ty.S64 (bound_value v 0) (omega (arith, ints, a.low)) (omega (arith, ints, a.high))
    go false a = value_from ty.S64 (bound_value v 1) (omega (arith, ints, a.low)) (omega (arith, ints, a.high))

-- ---- the next value and the last one

module _ (next last : ℤ) (n : CountsWithin next last) where
  pub next_long : IsValue ty.S64 next
  next_long = let a = n.from in let b = n.to in value_from ty.S64 next (omega (arith, ints, a)) (omega (arith, ints, b))

  pub more_long : IsValue ty.S64 (next +ℤ pos 1)
  more_long = let a = n.from in let b = n.to in value_from ty.S64 (next +ℤ pos 1) (omega (arith, ints, a)) (omega (arith, ints, b))

  pub last_long : IsValue ty.S64 last
  last_long = let a = n.last_from in let b = n.last_to in value_from ty.S64 last (omega (arith, ints, a)) (omega (arith, ints, b))

  -- while it is not over the end, the next value is an int
  pub next_short : int_lt last next ≡ false → IsValue ty.S32 next
  next_short z = let a = n.from in let b = n.last_to in value_from ty.S32 next (omega (arith, ints, a)) (omega (arith, ints, b, z))

-- ---- what is read

pub cell_whole : (v : ℤ) → cell v % 256 ^ 8 ≡ cell v
cell_whole v = let small = cell_small v in omega (arith, small)

pub read_back : (image : Image) (bytes : List ℕ) (at : ℕ) (v : ℤ) → IsValue ty.S64 v → slots_at image ≤ at → at + 8 ≤ end_of image → slot_number image bytes 8 at ≡ cell v → value_at ty.S64 bytes at ≡ v
read_back image bytes at v h low room e =
    let lies : in_slots image at 8 ≡ true = and_from _ _ (le-leb (slots_at image) at low) (le-leb (at + 8) (end_of image) room) in
    let holds : number_at 8 bytes at ≡ cell v = sym (ap (λ (t : Bool). if t then number_at 8 bytes at else 0) lies) ∙ e in
    ap (λ (x : ℕ). with_sign ty.S64 x) (holds ∙ sym (cell_whole v)) ∙ value_back ty.S64 v (λ q. absurd (cc)) h
