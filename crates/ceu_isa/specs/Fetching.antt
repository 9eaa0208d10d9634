-- The instruction at a code offset: each opcode has a reader of the operands behind it. This is the other direction of the spelling.
use Rattle.std.specs.Prelude.{ℕ, suc, zero, ◌+◌, ℤ, nat_le, if◌then◌else◌, List, [], ◌∷◌, ◌++◌, Option, Some, None, option_and_then, slice_get, length}
use Rattle.std.specs.Option.{option_map}
use Rattle.ceu_base.specs.Values.{is_value, is_signed}
use Rattle.ceu_base.specs.declared.kinds.Ty.{Ty}
use Rattle.ceu_base.specs.declared.kinds.Ty.TheVariants as ty
use Rattle.ceu_base.specs.declared.kinds.Op1.{Op1}
use Rattle.ceu_base.specs.declared.kinds.Op1.TheVariants.{Not, Neg, Compl}
use Rattle.ceu_base.specs.declared.kinds.Op2.{Op2}
use Rattle.ceu_base.specs.declared.kinds.Op2.TheVariants.{Eq, Ne, Lt, Gt, Le, Ge, BitOr, BitXor, BitAnd, Shl, Shr, Add, Sub, Mul, Div, Rem}
use Rattle.ceu_code.specs.declared.instr.TimeUnit.{TimeUnit}
use Rattle.ceu_code.specs.declared.instr.TimeUnit.TheVariants.{H, Min, S, Ms, Us}
use Rattle.ceu_code.specs.declared.instr.Instr.{Instr}
use Rattle.ceu_code.specs.declared.instr.Instr.TheVariants as instr
use Rattle.ceu_code.specs.Instructions.{size}
use Rattle.ceu_code.specs.declared.image.Image.{Image}
use Rattle.ceu_mem.specs.Bytes.{number_at}
use Rattle.ceu_mem.specs.Memory.{value_at}

-- ---- operands

abbrev types : List Ty
types = ty.Bool ∷ ty.U8 ∷ ty.S8 ∷ ty.U16 ∷ ty.S16 ∷ ty.U32 ∷ ty.S32 ∷ ty.U64 ∷ ty.S64 ∷ []

-- the type of a number, also none
abbrev pub any_type : ℕ → Option Ty
any_type n = slice_get (ty.None ∷ types) n

-- the type of a number, other than none
abbrev pub named_type : ℕ → Option Ty
named_type zero = None
named_type (suc n) = slice_get types n

abbrev pub prefix_of : ℕ → Option Op1
prefix_of n = slice_get (Not ∷ Neg ∷ Compl ∷ []) n

abbrev pub binary_of : ℕ → Option Op2
binary_of n = slice_get (Eq ∷ Ne ∷ Lt ∷ Gt ∷ Le ∷ Ge ∷ BitOr ∷ BitXor ∷ BitAnd ∷ Shl ∷ Shr ∷ Add ∷ Sub ∷ Mul ∷ Div ∷ Rem ∷ []) n

abbrev pub unit_of : ℕ → Option TimeUnit
unit_of n = slice_get (H ∷ Min ∷ S ∷ Ms ∷ Us ∷ []) n

abbrev pub byte : List ℕ → ℕ → ℕ
byte code at = number_at 1 code at

abbrev pub half : List ℕ → ℕ → ℕ
half code at = number_at 2 code at

-- the type whose cells are those of a type: signed or not
abbrev pub cell_type : Ty → Ty
cell_type t = if is_signed t then ty.S64 else ty.U64

-- ---- the instructions by opcode; `at` is where the operands begin

abbrev pub Reader : Type 0
Reader = List ℕ → (at : ℕ) → Option Instr

abbrev no_instruction : Reader
no_instruction code at = None

abbrev only : Instr → Reader
only i code at = Some i

abbrev half_then : (ℕ → Instr) → Reader
half_then f code at = Some (f (half code at))

abbrev halves_then : (ℕ → ℕ → Instr) → Reader
halves_then f code at = Some (f (half code at) (half code (at + 2)))

abbrev three_halves_then : (ℕ → ℕ → ℕ → Instr) → Reader
three_halves_then f code at = Some (f (half code at) (half code (at + 2)) (half code (at + 4)))

abbrev type_half_then : (Ty → ℕ → Instr) → Reader
type_half_then f code at = option_map (λ t. f t (half code (at + 1))) (named_type (byte code at))

abbrev half_type_then : (ℕ → Ty → Instr) → Reader
half_type_then f code at = option_map (λ t. f (half code at) t) (any_type (byte code (at + 2)))

-- a constant is a value of its type, extended to 8 bytes
abbrev pub constant_of : ℤ → Ty → Option Instr
constant_of v t = if is_value t v then Some (instr.Push t v) else None

abbrev pub pushed_constant : Reader
pushed_constant code at = option_and_then (λ t. constant_of (value_at (cell_type t) code (at + 1)) t) (named_type (byte code at))

abbrev pub prefix_operator : Reader
prefix_operator code at =
    option_and_then (λ o. option_map (λ t. instr.Prefix o t (half code (at + 2))) (named_type (byte code (at + 1)))) (prefix_of (byte code at))

abbrev pub binary_operator : Reader
binary_operator code at =
    option_and_then (λ o. option_map (λ t. instr.Binary o t (half code (at + 2))) (named_type (byte code (at + 1)))) (binary_of (byte code at))

abbrev pub conversion : Reader
conversion code at = option_and_then (λ t. option_map (λ u. instr.Convert t u) (named_type (byte code (at + 1)))) (named_type (byte code at))

abbrev pub header_value : Reader
header_value code at = option_map instr.Value (named_type (byte code at))

abbrev pub awaited_time : Reader
awaited_time code at = option_map instr.WaitTime (unit_of (byte code at))

abbrev pub pool : Reader
pool code at = Some (instr.MakePool (half code at) (half code (at + 2)) (half code (at + 4)) (half code (at + 6)))

abbrev pub spawn : Reader
spawn code at = Some (instr.Spawn (half code at) (half code (at + 2)) (half code (at + 4)) (half code (at + 6)) (half code (at + 8)))

abbrev pub range_bound : Reader
range_bound code at = if nat_le (byte code (at + 2)) 2 then Some (instr.RangeBound (half code at) (byte code (at + 2))) else None

abbrev loop_limit : Reader
loop_limit code at = Some (instr.Limit (half code at) (number_at 4 code (at + 2)) (half code (at + 6)))

abbrev readers_to_15 : List Reader
readers_to_15 =
    no_instruction ∷ pushed_constant ∷ type_half_then instr.Load ∷ type_half_then instr.LoadOuter ∷ type_half_then instr.Store ∷ type_half_then instr.StoreOuter
    ∷ prefix_operator ∷ binary_operator ∷ conversion ∷ half_then instr.Jump ∷ half_then instr.JumpIfFalse ∷ header_value ∷ only instr.SetValue
    ∷ half_type_then instr.Output ∷ only instr.End ∷ no_instruction ∷ []

abbrev readers_from_16 : List Reader
readers_from_16 =
    half_then instr.WaitInput ∷ awaited_time ∷ half_then instr.WaitEvent ∷ only instr.WaitForever ∷ only instr.StartAsync ∷ only instr.YieldAsync
    ∷ only instr.EndAsync ∷ half_type_then instr.Emit ∷ halves_then instr.Fork ∷ half_then instr.Move ∷ only instr.Halt ∷ halves_then instr.AbortGates
    ∷ three_halves_then instr.Register ∷ only instr.EndFinalizer ∷ three_halves_then instr.Call ∷ only instr.Return ∷ pool ∷ spawn ∷ half_then instr.Kill
    ∷ half_then instr.Alive ∷ range_bound ∷ three_halves_then instr.RangeNext ∷ loop_limit ∷ []

unfoldable pub readers : List Reader
readers = readers_to_15 ++ readers_from_16

unfoldable pub read_by : Option Reader → List ℕ → ℕ → Option Instr
read_by None code at = None
read_by (Some reader) code at = reader code at

-- what the bytes from an offset on would be as an instruction
unfoldable pub decoded : List ℕ → ℕ → Option Instr
decoded code at = read_by (slice_get readers (byte code at)) code (at + 1)

abbrev pub if_whole : List ℕ → ℕ → Instr → Option Instr
if_whole code at i = if nat_le (at + size i) (length code) then Some i else None

-- the whole instruction at an offset
unfoldable pub fetched : Image → ℕ → Option Instr
fetched image at = option_and_then (if_whole image.code at) (decoded image.code at)
