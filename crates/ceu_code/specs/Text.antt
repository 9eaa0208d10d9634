-- An instruction as a line of text: its offset, its name, and its operands, with a blank before each.
use Rattle.std.specs.Prelude.{◌≡◌, ℕ, zero, suc, ◌+◌, ◌*◌, ◌^◌, ℤ, pos, ◌-ℤ◌, ◌&&◌, nat_le, ◌==◌, List, [], ◌∷◌, ◌++◌, drop, slice_get, slice_index, unwrap_or, codes, decimal, if◌then◌else◌, Option, Some, None}
use Rattle.std.specs.Fmt.{signed_decimal}
use Rattle.ceu_base.specs.Values.{is_signed}
use Rattle.ceu_base.specs.declared.kinds.Ty.{Ty}
use Rattle.ceu_base.specs.declared.kinds.Ty.TheVariants as ty
use Rattle.ceu_code.specs.declared.table.Operand.{Operand}
use Rattle.ceu_code.specs.declared.table.Operand.TheVariants.{Nothing, Typed, AnyType, Prefix, Binary, Unit as TimeUnit, Open, Half, Word, Constant}
use Rattle.ceu_code.specs.declared.table.Row.{Row}
use Rattle.ceu_code.specs.Table.{operand_width, operands, operands_width, row_of, type_at, IsInstruction}

abbrev pub type_name : Ty → List ℕ
type_name ty.None = codes "none"
type_name ty.Bool = codes "bool"
type_name ty.U8 = codes "u8"
type_name ty.S8 = codes "s8"
type_name ty.U16 = codes "u16"
type_name ty.S16 = codes "s16"
type_name ty.U32 = codes "u32"
type_name ty.S32 = codes "s32"
type_name ty.U64 = codes "u64"
type_name ty.S64 = codes "s64"

-- names by number; a number past the last has none
abbrev pub name_at : List (List ℕ) → ℕ → List ℕ
name_at names n = unwrap_or (slice_get names n) []

abbrev pub prefix_names : List (List ℕ)
prefix_names = codes "not" ∷ codes "neg" ∷ codes "compl" ∷ []

abbrev pub binary_names : List (List ℕ)
binary_names =
    codes "eq" ∷ codes "ne" ∷ codes "lt" ∷ codes "gt" ∷ codes "le" ∷ codes "ge" ∷ codes "bitor" ∷ codes "bitxor" ∷ codes "bitand" ∷ codes "shl" ∷ codes "shr"
    ∷ codes "add" ∷ codes "sub" ∷ codes "mul" ∷ codes "div" ∷ codes "rem" ∷ []

abbrev pub unit_names : List (List ℕ)
unit_names = codes "h" ∷ codes "min" ∷ codes "s" ∷ codes "ms" ∷ codes "us" ∷ []

-- the names of the opcodes from 0 on; 0 and 15 are none
abbrev pub opcode_names : List (List ℕ)
opcode_names =
    [] ∷ codes "push" ∷ codes "load" ∷ codes "loado" ∷ codes "store" ∷ codes "storeo" ∷ codes "op1" ∷ codes "op2" ∷ codes "conv" ∷ codes "jump" ∷ codes "jumpf"
    ∷ codes "val" ∷ codes "setv" ∷ codes "out" ∷ codes "end" ∷ [] ∷ codes "waitin" ∷ codes "waittime" ∷ codes "waitev" ∷ codes "forever" ∷ codes "async"
    ∷ codes "yield" ∷ codes "endasync" ∷ codes "emit" ∷ codes "fork" ∷ codes "move" ∷ codes "halt" ∷ codes "abort" ∷ codes "final" ∷ codes "endfin" ∷ codes "call"
    ∷ codes "ret" ∷ codes "pool" ∷ codes "spawn" ∷ codes "kill" ∷ codes "alive" ∷ codes "bound" ∷ codes "next" ∷ codes "limit" ∷ []

-- the number of k bytes at a place, the lowest first
unfoldable pub number_at : ℕ → List ℕ → ℕ → ℕ
number_at zero bytes at = 0
number_at (suc k) bytes at = slice_index bytes at + 256 * number_at k bytes (at + 1)

-- the value of a cell in a type
abbrev pub cell_value : Ty → ℕ → ℤ
cell_value t n = if is_signed t && nat_le (2 ^ 63) n then pos n -ℤ pos (2 ^ 64) else pos n

abbrev pub value_text : Ty → ℕ → List ℕ
value_text ty.Bool n = if n == 0 then codes "false" else codes "true"
value_text t n = signed_decimal (cell_value t n)

abbrev pub operand_text : Operand → List ℕ → ℕ → List ℕ
operand_text Nothing code at = []
operand_text Typed code at = 32 ∷ type_name (type_at (slice_index code at))
operand_text AnyType code at = 32 ∷ type_name (type_at (slice_index code at))
operand_text Prefix code at = 32 ∷ name_at prefix_names (slice_index code at)
operand_text Binary code at = 32 ∷ name_at binary_names (slice_index code at)
operand_text TimeUnit code at = 32 ∷ name_at unit_names (slice_index code at)
operand_text Open code at = 32 ∷ decimal (slice_index code at)
operand_text Half code at = 32 ∷ decimal (number_at 2 code at)
operand_text Word code at = 32 ∷ decimal (number_at 4 code at)
operand_text Constant code at = (32 ∷ type_name (type_at (slice_index code at))) ++ (32 ∷ value_text (type_at (slice_index code at)) (number_at 8 code (at + 1)))

abbrev pub operands_text : List Operand → List ℕ → ℕ → List ℕ
operands_text [] code at = []
operands_text (kind ∷ kinds) code at = operand_text kind code at ++ operands_text kinds code (at + operand_width kind)

abbrev pub operands_of : Option Row → List Operand
operands_of (Some row) = operands row
operands_of None = []

abbrev pub line_text : List ℕ → ℕ → List ℕ
line_text code at = ((decimal at ++ 32 ∷ []) ++ name_at opcode_names (slice_index code at)) ++ operands_text (operands_of (row_of (slice_index code at))) code (at + 1)

abbrev pub instruction_size : List ℕ → ℕ → ℕ
instruction_size code at = 1 + operands_width (operands_of (row_of (slice_index code at)))

-- an instruction starts at the offset
abbrev pub StartsInstruction : List ℕ → ℕ → Type 0
StartsInstruction code at = (word : List ℕ) × (rest : List ℕ) × IsInstruction word × (drop at code ≡ word ++ rest)

-- how many bytes of text an operand takes at most
abbrev pub operand_room : Operand → ℕ
operand_room Nothing = 0
operand_room Half = 6
operand_room Word = 11
operand_room Open = 6
operand_room Constant = 46
operand_room _ = 7

abbrev pub operands_room : List Operand → ℕ
operands_room [] = 0
operands_room (kind ∷ kinds) = operand_room kind + operands_room kinds
