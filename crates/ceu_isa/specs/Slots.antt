-- Variables and loops: what lies in the slots.
use Rattle.std.specs.Prelude.{ℕ, ◌+◌, ◌^◌, ℤ, pos, ◌+ℤ◌, ◌-ℤ◌, int_lt, nat_lt, ◌==◌, ◌&&◌, if◌then◌else◌, List, [], slice_get}
use Rattle.ceu_base.specs.declared.kinds.Ty.{Ty}
use Rattle.ceu_base.specs.declared.kinds.Ty.TheVariants as ty
use Rattle.ceu_base.specs.declared.kinds.Fault.TheVariants.{LoopLimit}
use Rattle.ceu_base.specs.Values.{is_value}
use Rattle.ceu_code.specs.declared.image.Image.{Image}
use Rattle.ceu_mem.specs.Bytes.{number_at, with_number}
use Rattle.ceu_mem.specs.Memory.{size, value_at, with_value}
use Rattle.ceu_isa.specs.declared.registers.Registers.{Registers}
use Rattle.ceu_isa.specs.Layout.{slots_at, in_slots}
use Rattle.ceu_isa.specs.Effects.{Effect, Goes, Faults, provided, for_some}
use Rattle.ceu_isa.specs.Cells.{popped, pushed}

-- a variable of this frame, and one of the program's frame
abbrev pub here : Registers → ℕ → ℕ
here r slot = r.frame + slot

abbrev pub outer : Image → ℕ → ℕ
outer image slot = slots_at image + slot

abbrev pub load_at : Image → Ty → (at : ℕ) → Registers → List ℕ → Effect
load_at image t at r bytes = provided (in_slots image at (size t) && is_value t (value_at t bytes at)) (pushed image (value_at t bytes at) r bytes)

abbrev pub store_at : Image → Ty → (at : ℕ) → Registers → List ℕ → Effect
store_at image t at r bytes =
    for_some (popped image t r bytes) (λ a. provided (in_slots image at (size t)) (Goes a.registers (with_value t a.value bytes at) []))

-- ---- loops

-- an end of a range, as an s64: the value that was popped, and a number less 1
abbrev pub bound_value : ℤ → ℕ → ℤ
bound_value v d = (v +ℤ pos d) -ℤ pos 1

abbrev pub bound_at : Image → (at d : ℕ) → Registers → List ℕ → Effect
bound_at image at d r bytes =
    for_some (popped image ty.S64 r bytes)
    (λ a. provided (in_slots image at 8 && is_value ty.S64 (bound_value a.value d)) (Goes a.registers (with_value ty.S64 (bound_value a.value d) bytes at) []))

-- the variable, an int, takes the next value, and that grows by 1
abbrev pub next_taken : Image → (at variable : ℕ) → ℤ → Registers → List ℕ → Effect
next_taken image at variable next r bytes =
    provided ((in_slots image variable 4 && is_value ty.S32 next) && is_value ty.S64 (next +ℤ pos 1))
    (Goes r (with_value ty.S64 (next +ℤ pos 1) (with_value ty.S32 next bytes variable) at) [])

-- next lies at a place, and the end 8 behind it; where next is over the end, the trail goes to an offset
abbrev pub next_at : Image → (at variable to : ℕ) → Registers → List ℕ → Effect
next_at image at variable to r bytes =
    provided (in_slots image at 16)
    (if int_lt (value_at ty.S64 bytes (at + 8)) (value_at ty.S64 bytes at) then Goes (record r { at = to }) bytes []
    else next_taken image at variable (value_at ty.S64 bytes at) r bytes)

-- one more turn, where there were fewer than n
abbrev pub limit_at : Image → (at n position : ℕ) → Registers → List ℕ → Effect
limit_at image at n position r bytes =
    for_some (slice_get image.places position) (λ p. provided (in_slots image at 4)
    (if number_at 4 bytes at == n then Faults LoopLimit p
    else provided (nat_lt (number_at 4 bytes at + 1) (2 ^ 32)) (Goes r (with_number 4 (number_at 4 bytes at + 1) bytes at) [])))
