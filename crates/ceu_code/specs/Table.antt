-- The instructions as bytes: an opcode and its operands, numbers with the lowest byte first.
use Rattle.std.specs.Prelude.{◌≡◌, ℕ, zero, suc, ◌+◌, ◌-◌, ◌/◌, ◌%◌, ◌^◌, ◌≤◌, ◌⊎◌, List, [], ◌∷◌, ◌++◌, Option, Some, None, option_and_then, slice_get, if◌then◌else◌}
use Rattle.std.specs.List.{flat_map, AllByRecursion}
use Rattle.ceu_base.specs.Values.{width, is_signed}
use Rattle.ceu_base.specs.declared.kinds.Ty.{Ty}
use Rattle.ceu_base.specs.declared.kinds.Ty.TheVariants as ty
use Rattle.ceu_code.specs.declared.table.Operand.{Operand}
use Rattle.ceu_code.specs.declared.table.Operand.TheVariants.{Nothing, Typed, AnyType, Prefix, Binary, Unit, Open, Half, Word, Constant}
use Rattle.ceu_code.specs.declared.table.Row.{Row}
use Rattle.ceu_code.specs.declared.span.Span.{Span}

-- k bytes of a number, the lowest first
unfoldable pub low_first : ℕ → ℕ → List ℕ
low_first zero n = []
low_first (suc k) n = (n % 256) ∷ low_first k (n / 256)

-- the number of a type
abbrev pub type_byte : Ty → ℕ
type_byte ty.None = 0
type_byte ty.Bool = 1
type_byte ty.U8 = 2
type_byte ty.S8 = 3
type_byte ty.U16 = 4
type_byte ty.S16 = 5
type_byte ty.U32 = 6
type_byte ty.S32 = 7
type_byte ty.U64 = 8
type_byte ty.S64 = 9

-- the type of a number
abbrev pub type_at : ℕ → Ty
type_at zero = ty.None
type_at (suc zero) = ty.Bool
type_at (suc (suc zero)) = ty.U8
type_at (suc (suc (suc zero))) = ty.S8
type_at (suc (suc (suc (suc zero)))) = ty.U16
type_at (suc (suc (suc (suc (suc zero))))) = ty.S16
type_at (suc (suc (suc (suc (suc (suc zero)))))) = ty.U32
type_at (suc (suc (suc (suc (suc (suc (suc zero))))))) = ty.S32
type_at (suc (suc (suc (suc (suc (suc (suc (suc zero)))))))) = ty.U64
type_at (suc (suc (suc (suc (suc (suc (suc (suc (suc n))))))))) = ty.S64

-- the operands that stand behind each opcode from 0 on, with nothing behind the last; the opcodes 0 and 15 are none
abbrev five : Operand → Operand → Operand → Operand → Operand → Option Row
five a b c d e = Some (record { first = a; second = b; third = c; fourth = d; fifth = e })

abbrev no_operand : Option Row
no_operand = five Nothing Nothing Nothing Nothing Nothing

abbrev one : Operand → Option Row
one a = five a Nothing Nothing Nothing Nothing

abbrev two : Operand → Operand → Option Row
two a b = five a b Nothing Nothing Nothing

abbrev three : Operand → Operand → Operand → Option Row
three a b c = five a b c Nothing Nothing

abbrev four : Operand → Operand → Operand → Operand → Option Row
four a b c d = five a b c d Nothing

abbrev pub rows_to_15 : List (Option Row)
rows_to_15 =
    None ∷ one Constant ∷ two Typed Half ∷ two Typed Half ∷ two Typed Half ∷ two Typed Half ∷ three Prefix Typed Half ∷ three Binary Typed Half
    ∷ two Typed Typed ∷ one Half ∷ one Half ∷ one Typed ∷ no_operand ∷ two Half AnyType ∷ no_operand ∷ None ∷ []

abbrev pub rows_from_16 : List (Option Row)
rows_from_16 =
    one Half ∷ one Unit ∷ one Half ∷ no_operand ∷ no_operand ∷ no_operand ∷ no_operand ∷ two Half AnyType ∷ two Half Half ∷ one Half ∷ no_operand ∷ two Half Half
    ∷ three Half Half Half ∷ no_operand ∷ three Half Half Half ∷ no_operand ∷ four Half Half Half Half ∷ five Half Half Half Half Half ∷ one Half ∷ one Half
    ∷ two Half Open ∷ three Half Half Half ∷ three Half Word Half ∷ []

unfoldable pub table : List (Option Row)
table = rows_to_15 ++ rows_from_16

-- the operands of an opcode, where it is one
unfoldable pub row_of : ℕ → Option Row
row_of op = option_and_then (λ row. row) (slice_get table op)

abbrev pub operands : Row → List Operand
operands row = row.first ∷ row.second ∷ row.third ∷ row.fourth ∷ row.fifth ∷ []

-- ---- what an operand is as bytes

abbrev pub operand_width : Operand → ℕ
operand_width Nothing = 0
operand_width Half = 2
operand_width Word = 4
operand_width Constant = 9
operand_width _ = 1

abbrev pub operand_least : Operand → ℕ
operand_least Typed = 1
operand_least _ = 0

abbrev pub operand_greatest : Operand → ℕ
operand_greatest Typed = 9
operand_greatest AnyType = 9
operand_greatest Prefix = 2
operand_greatest Binary = 15
operand_greatest Unit = 4
operand_greatest Open = 2
operand_greatest Half = 65535
operand_greatest Word = 4294967295
operand_greatest _ = 0

abbrev pub InSpan : Span → ℕ → Type 0
InSpan span n = (span.from ≤ n) × (n ≤ span.to)

abbrev pub empty_span : Span
empty_span = record { from = 1; to = 0 }

-- the values of a type modulo 2^64: those from 0 on, and those below 0
abbrev pub small_cells : Ty → Span
small_cells t = record { from = 0; to = if is_signed t then 2 ^ (width t - 1) - 1 else 2 ^ width t - 1 }

abbrev pub negative_cells : Ty → Span
negative_cells t = if is_signed t then record { from = 2 ^ 64 - 2 ^ (width t - 1); to = 2 ^ 64 - 1 } else empty_span

-- the number lies in one of two spans
abbrev pub InEither : Span → Span → ℕ → Type 0
InEither a b n = InSpan a n ⊎ InSpan b n

pub record IsConstant (bytes : List ℕ) : Type 0 where
  pub type_number : ℕ
  pub cell : ℕ
  pub typed : (1 ≤ type_number) × (type_number ≤ 9)
  pub value : InEither (small_cells (type_at type_number)) (negative_cells (type_at type_number)) cell
  pub spelled : bytes ≡ type_number ∷ low_first 8 cell

pub record IsNumber (k least greatest : ℕ) (bytes : List ℕ) : Type 0 where
  pub number : ℕ
  pub above : least ≤ number
  pub below : number ≤ greatest
  pub spelled : bytes ≡ low_first k number

abbrev pub IsOperand : Operand → List ℕ → Type 0
IsOperand Constant bytes = IsConstant bytes
IsOperand kind bytes = IsNumber (operand_width kind) (operand_least kind) (operand_greatest kind) bytes

abbrev pub operand_span : Operand → Span
operand_span kind = record { from = operand_least kind; to = operand_greatest kind }

-- operands one after the other
abbrev pub IsOperands : List Operand → List ℕ → Type 0
IsOperands [] bytes = bytes ≡ []
IsOperands (kind ∷ kinds) bytes = (front : List ℕ) × (rest : List ℕ) × IsOperand kind front × IsOperands kinds rest × (bytes ≡ front ++ rest)

-- how many bytes an instruction with these operands has
abbrev pub operands_width : List Operand → ℕ
operands_width [] = 0
operands_width (kind ∷ kinds) = operand_width kind + operands_width kinds

-- a whole instruction: an opcode and its operands
pub record IsInstruction (bytes : List ℕ) : Type 0 where
  pub opcode : ℕ
  pub row : Row
  pub behind : List ℕ
  pub known : row_of opcode ≡ Some row
  pub whole : IsOperands (operands row) behind
  pub spelled : bytes ≡ opcode ∷ behind

-- whole instructions one after the other
pub record IsCode (bytes : List ℕ) : Type 0 where
  pub instructions : List (List ℕ)
  pub whole : AllByRecursion IsInstruction instructions
  pub spelled : bytes ≡ flat_map (λ i. i) instructions
