-- What is printed of a run, as bytes (this project's own).
use Rattle.std.specs.Prelude.{ℕ, suc, zero, ◌+◌, ℤ, pos, negsuc, Bool, true, false, if◌then◌else◌, List, [], ◌∷◌, ◌++◌, codes}
use Rattle.std.specs.List.{filter}
use Rattle.std.specs.Fmt.{decimal}
use Rattle.ceu_base.specs.declared.kinds.Ty.{Ty}
use Rattle.ceu_base.specs.declared.kinds.Ty.TheVariants as ty
use Rattle.ceu_base.specs.declared.kinds.Port.{Port}
use Rattle.ceu_base.specs.declared.kinds.Pos.{Pos}
use Rattle.ceu_base.specs.declared.kinds.Fault.{Fault}
use Rattle.ceu_base.specs.declared.kinds.Fault.TheVariants.{Overflow, DivZero, Shift, LoopLimit, SpawnCount}
use Rattle.ceu_base.specs.declared.kinds.Mark.{Mark}
use Rattle.ceu_base.specs.declared.kinds.Mark.TheVariants.{Output, Resume, Push, Pop, Registered, Ran, Spawned, Full}
use Rattle.ceu_base.specs.Values.{same}
use Rattle.ceu_tree.specs.declared.kernel.Kernel.{Kernel}
use Rattle.ceu_tree.specs.Costs.{bounds}
use Rattle.ceu_tree.specs.Needs.{memory}
use Rattle.ceu_tree.specs.Run.{Status, Reacting, Waits, HasEnded, HasFaulted}

abbrev pub newline : List ℕ
newline = 10 ∷ []

abbrev pub integer_text : ℤ → List ℕ
integer_text (pos n) = decimal n
integer_text (negsuc n) = 45 ∷ decimal (n + 1)

abbrev pub place_text : Pos → List ℕ
place_text p = decimal p.line ++ codes ":" ++ decimal p.col

-- ---- marks

-- what follows the name of an output: a blank and the value, where it has one
abbrev pub value_text : Ty → ℤ → List ℕ
value_text ty.None v = []
value_text ty.Bool v = if same v (pos 0) then codes " false" else codes " true"
value_text t v = codes " " ++ integer_text v

abbrev pub output_line : List Port → ℕ → ℤ → List ℕ
output_line [] k v = []
output_line (p ∷ ps) zero v = p.name ++ value_text p.ty v ++ newline
output_line (p ∷ ps) (suc k) v = output_line ps k v

abbrev pub mark_line : List Port → Mark → List ℕ
mark_line ports (Output k v) = output_line ports k v
mark_line ports (Resume n) = codes "> resume " ++ decimal n ++ newline
mark_line ports (Push n) = codes "> push " ++ decimal n ++ newline
mark_line ports (Pop n) = codes "> pop " ++ decimal n ++ newline
mark_line ports (Registered p) = codes "> registered " ++ place_text p ++ newline
mark_line ports (Ran p) = codes "> ran " ++ place_text p ++ newline
mark_line ports (Spawned n) = codes "> spawned " ++ decimal n ++ newline
mark_line ports Full = codes "> full" ++ newline

abbrev pub is_output : Mark → Bool
is_output (Output k v) = true
is_output _ = false

-- the marks that are printed: a trace prints all, a run the outputs
abbrev pub shown : (all : Bool) → List Mark → List Mark
shown true ms = ms
shown false ms = filter is_output ms

abbrev pub mark_lines : List Port → List Mark → List ℕ
mark_lines ports [] = []
mark_lines ports (m ∷ ms) = mark_line ports m ++ mark_lines ports ms

-- ---- the first line and the status line

abbrev pub memory_line : Kernel → List ℕ
memory_line K = codes "memory " ++ decimal (memory false K) ++ codes " turns " ++ decimal (bounds K).turns ++ codes " levels " ++ decimal (bounds K).opens ++ newline

abbrev pub fault_name : Fault → List ℕ
fault_name Overflow = codes "Overflow"
fault_name DivZero = codes "DivZero"
fault_name Shift = codes "Shift"
fault_name LoopLimit = codes "LoopLimit"
fault_name SpawnCount = codes "SpawnCount"

abbrev pub status_line : Status → List ℕ
status_line Reacting = []
status_line Waits = codes "== waiting" ++ newline
status_line (HasEnded v) = codes "== escape " ++ integer_text v ++ newline
status_line (HasFaulted e) = codes "== fault " ++ fault_name e.0 ++ codes " " ++ place_text e.1 ++ newline

-- the whole text of a run whose script has no bad line
abbrev pub run_text : Kernel → (all : Bool) → List Mark → Status → List ℕ
run_text K all marks status = memory_line K ++ mark_lines K.outputs (shown all marks) ++ status_line status
