-- Evaluation cells: constants, operators, jumps, the header's value and outputs. A cell holds a value modulo 2^64.
use Rattle.std.specs.Prelude.{ℕ, ◌+◌, ◌-◌, ℤ, pos, nat_lt, nat_le, Bool, true, false, ◌&&◌, if◌then◌else◌, List, [], ◌∷◌, Option, Some, None, Result, Ok, Err, slice_get}
use Rattle.ceu_base.specs.declared.kinds.Ty.{Ty}
use Rattle.ceu_base.specs.declared.kinds.Ty.TheVariants as ty
use Rattle.ceu_base.specs.declared.kinds.Op1.{Op1}
use Rattle.ceu_base.specs.declared.kinds.Op2.{Op2}
use Rattle.ceu_base.specs.declared.kinds.Fault.{Fault}
use Rattle.ceu_base.specs.declared.kinds.Pos.{Pos}
use Rattle.ceu_base.specs.declared.kinds.Mark.TheVariants.{Output}
use Rattle.ceu_base.specs.Values.{is_value, same, wrapped, applied1, applied2, takes1, takes2, right_type}
use Rattle.ceu_code.specs.declared.image.Image.{Image}
use Rattle.ceu_code.specs.Instructions.{cell}
use Rattle.ceu_mem.specs.Bytes.{number_at, with_number}
use Rattle.ceu_mem.specs.Memory.{value_at}
use Rattle.ceu_isa.specs.declared.registers.Registers.{Registers}
use Rattle.ceu_isa.specs.Layout.{cell_at, scratch_at, with_scratch}
use Rattle.ceu_isa.specs.Fetching.{cell_type}
use Rattle.ceu_isa.specs.Effects.{Effect, Goes, Faults, provided, for_some}

-- ---- popping and pushing

-- a value that was popped, and the registers then
pub record Popped : Type 0 where
  pub value : ℤ
  pub registers : Registers

-- there is a cell in use, and it is one of the image's
abbrev pub has_top : Image → Registers → Bool
has_top image r = nat_le 1 r.depth && nat_le r.depth image.depth

abbrev pub below : Registers → Registers
below r = record r { depth = r.depth - 1 }

-- what the top cell holds in a type
abbrev pub top_value : Ty → Registers → List ℕ → ℤ
top_value t r bytes = value_at (cell_type t) bytes (cell_at (r.depth - 1))

-- the top cell's value, which is one of the type
unfoldable pub popped : Image → Ty → Registers → List ℕ → Option Popped
popped image t r bytes =
    if has_top image r && is_value t (top_value t r bytes) then Some (record { value = top_value t r bytes; registers = below r }) else None

-- the value goes on a new cell
unfoldable pub pushed : Image → ℤ → Registers → List ℕ → Effect
pushed image v r bytes =
    provided (nat_lt r.depth image.depth) (Goes (record r { depth = r.depth + 1 }) (with_number 8 (cell v) bytes (cell_at r.depth)) [])

-- a value that an operator gave, or its fault at a position
abbrev pub answered : Image → Pos → Result ℤ Fault → Registers → List ℕ → Effect
answered image p (Ok v) r bytes = pushed image v r bytes
answered image p (Err f) r bytes = Faults f p

-- ---- operators

abbrev pub prefixed : Image → Op1 → Ty → Pos → Popped → List ℕ → Effect
prefixed image o t p a bytes = provided (takes1 o t) (answered image p (applied1 o t a.value) a.registers bytes)

abbrev pub prefix_row : Image → Op1 → Ty → (position : ℕ) → Registers → List ℕ → Effect
prefix_row image o t position r bytes =
    for_some (slice_get image.places position) (λ p. for_some (popped image t r bytes) (λ a. prefixed image o t p a bytes))

abbrev pub combined : Image → Op2 → Ty → Pos → (left right : Popped) → List ℕ → Effect
combined image o t p a b bytes = provided (takes2 o t) (answered image p (applied2 o t a.value b.value) a.registers bytes)

-- the right operand is the top one
abbrev pub binary_row : Image → Op2 → Ty → (position : ℕ) → Registers → List ℕ → Effect
binary_row image o t position r bytes =
    for_some (slice_get image.places position) (λ p. for_some (popped image (right_type o t) r bytes)
    (λ b. for_some (popped image t b.registers bytes) (λ a. combined image o t p a b bytes)))

abbrev pub converted : Image → Ty → Ty → Registers → List ℕ → Effect
converted image t u r bytes = for_some (popped image t r bytes) (λ a. pushed image (wrapped u a.value) a.registers bytes)

abbrev pub has_values : Ty → Bool
has_values ty.None = false
has_values _ = true

abbrev pub convert_row : Image → Ty → Ty → Registers → List ℕ → Effect
convert_row image t u r bytes = provided (has_values u) (converted image t u r bytes)

-- ---- jumps

abbrev pub jump_row : (to : ℕ) → Registers → List ℕ → Effect
jump_row to r bytes = Goes (record r { at = to }) bytes []

-- goes to an offset where the value is false
abbrev pub jump_if_row : Image → (to : ℕ) → Registers → List ℕ → Effect
jump_if_row image to r bytes =
    for_some (popped image ty.Bool r bytes) (λ a. Goes (if same a.value (pos 0) then record a.registers { at = to } else a.registers) bytes [])

-- ---- the header's value

abbrev pub value_row : Image → Ty → Registers → List ℕ → Effect
value_row image t r bytes =
    let v = value_at (cell_type t) bytes scratch_at in
    provided (is_value t v) (pushed image v r bytes)

abbrev pub set_value_row : Image → Registers → List ℕ → Effect
set_value_row image r bytes = provided (has_top image r) (Goes (below r) (with_scratch (number_at 8 bytes (cell_at (r.depth - 1))) bytes) [])

-- ---- outputs

-- pops a value, and not for none, whose value is 0
abbrev pub popped_unless_none : Image → Ty → Registers → List ℕ → Option Popped
popped_unless_none image ty.None r bytes = Some (record { value = pos 0; registers = r })
popped_unless_none image t r bytes = popped image t r bytes

-- the output is marked with a value of its port's type
abbrev pub output_row : Image → (output : ℕ) → Ty → Registers → List ℕ → Effect
output_row image k t r bytes =
    for_some (slice_get image.outputs k) (λ port. for_some (popped_unless_none image t r bytes)
    (λ a. provided (is_value port.ty a.value) (Goes a.registers bytes (Output k a.value ∷ []))))
