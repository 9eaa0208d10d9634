-- The line of each mark. The form of these lines is this project's own.
use Rattle.std.specs.Prelude.{ℕ, ℤ, pos, Bool, List, [], ◌∷◌, ◌++◌, length, Option, Some, None, if◌then◌else◌, codes, decimal, nat_le, slice_get}
use Rattle.std.specs.Ordering.{int_eq}
use Rattle.std.specs.Fmt.{signed_decimal}
use Rattle.std.specs.List.{list_all}
use Rattle.ceu_base.specs.declared.kinds.Mark.{Mark}
use Rattle.ceu_base.specs.declared.kinds.Mark.TheVariants.{Output, Resume, Push, Pop, Registered, Ran, Spawned, Full}
use Rattle.ceu_base.specs.declared.kinds.Port.{Port}
use Rattle.ceu_base.specs.declared.kinds.Pos.{Pos}
use Rattle.ceu_base.specs.declared.kinds.Ty.{Ty}
use Rattle.ceu_base.specs.declared.kinds.Ty.TheVariants as type

-- a blank and the value, for a type other than `none`
abbrev pub value_part : Ty → ℤ → List ℕ
value_part type.None value = []
value_part type.Bool value = if int_eq value (pos 0) then codes " false" else codes " true"
value_part ty value = 32 ∷ signed_decimal value

abbrev pub output_line : Port → ℤ → List ℕ
output_line port value = port.name ++ value_part port.ty value ++ 10 ∷ []

-- An output past the list isn't printed.
abbrev pub of_port : Option Port → ℤ → List ℕ
of_port (Some port) value = output_line port value
of_port None value = []

abbrev pub numbered : List ℕ → ℕ → List ℕ
numbered word n = word ++ decimal n ++ 10 ∷ []

abbrev pub placed : List ℕ → Pos → List ℕ
placed word place = word ++ decimal place.line ++ 58 ∷ [] ++ decimal place.col ++ 10 ∷ []

-- the line of a mark that isn't an output
abbrev pub trace_line : Mark → List ℕ
trace_line (Output port value) = []
trace_line (Resume level) = numbered (codes "> resume ") level
trace_line (Push level) = numbered (codes "> push ") level
trace_line (Pop level) = numbered (codes "> pop ") level
trace_line (Registered place) = placed (codes "> registered ") place
trace_line (Ran place) = placed (codes "> ran ") place
trace_line (Spawned number) = numbered (codes "> spawned ") number
trace_line Full = codes "> full\n"

-- What is printed for a mark: its line with its newline, or nothing.
abbrev pub printed : Bool → List Port → Mark → List ℕ
printed all outputs (Output port value) = of_port (slice_get outputs port) value
printed all outputs other = if all then trace_line other else []

-- no name has more than 64 bytes
abbrev pub short_names : List Port → Bool
short_names outputs = list_all (λ port. nat_le (length port.name) 64) outputs
