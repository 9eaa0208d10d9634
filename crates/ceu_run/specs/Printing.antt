-- What is printed of a run. The form of these lines is this project's own.
use Rattle.std.specs.Prelude.{◌≡◌, ℕ, ℤ, zero, suc, ◌+◌, ◌≤◌, Bool, List, [], ◌∷◌, ◌++◌, length, drop, Option, Some, None, Result, Ok, Err, codes}
use Rattle.std.specs.Fmt.{decimal, signed_decimal}
use Rattle.ceu_base.specs.declared.kinds.Pos.{Pos}
use Rattle.ceu_base.specs.declared.kinds.Fault.{Fault}
use Rattle.ceu_base.specs.declared.kinds.Fault.TheVariants.{Overflow, DivZero, Shift, LoopLimit, SpawnCount}
use Rattle.ceu_base.specs.declared.kinds.Mark.{Mark}
use Rattle.ceu_base.specs.declared.kinds.Port.{Port}
use Rattle.ceu_io.specs.Bytes.{Appends, AppendsProperFront}
use Rattle.ceu_io.specs.declared.outside.Failed.{Failed}
use Rattle.ceu_script.specs.Lines.{Line, skipped, content, bad}
use Rattle.ceu_script.specs.declared.items.BadKind.{BadKind}
use Rattle.ceu_script.specs.declared.items.BadKind.TheVariants as kind
use Rattle.ceu_trace.specs.Lines.{printed}
use Rattle.ceu_tree.specs.declared.command.Command.{Command}
use Rattle.ceu_tree.specs.declared.command.Command.TheVariants.{Input, Advance, Idle}
use Rattle.ceu_tree.specs.declared.kernel.Kernel.{Kernel}
use Rattle.ceu_tree.specs.Run.{Config, Status, Reacting, Waits, HasEnded, HasFaulted, world_of, status_of, booted, steps, done, all_done, idle_turn}
use Rattle.ceu_run.specs.Reactions.{status_after}
use Rattle.ceu_run.specs.declared.reactor.After.{After}

-- ---- lines of marks

abbrev pub marks_text : (all : Bool) → List Port → List Mark → List ℕ
marks_text all outputs [] = []
marks_text all outputs (m ∷ ms) = printed all outputs m ++ marks_text all outputs ms

-- the lines of the marks that are new since those before
abbrev pub new_text : (all : Bool) → List Port → (before : List Mark) → Config → List ℕ
new_text all outputs before c = marks_text all outputs (drop (length before) (world_of c).marks)

-- ---- the line of how the program stands

abbrev pub fault_name : Fault → List ℕ
fault_name Overflow = codes "Overflow"
fault_name DivZero = codes "DivZero"
fault_name Shift = codes "Shift"
fault_name LoopLimit = codes "LoopLimit"
fault_name SpawnCount = codes "SpawnCount"

abbrev pub kind_name : BadKind → List ℕ
kind_name kind.Long = codes "long"
kind_name kind.Form = codes "form"
kind_name kind.Unknown = codes "unknown"
kind_name kind.Value = codes "value"
kind_name kind.Time = codes "time"
kind_name kind.Budget = codes "budget"

abbrev pub waiting_line : List ℕ
waiting_line = codes "== waiting\n"

abbrev pub escape_line : ℤ → List ℕ
escape_line v = codes "== escape " ++ signed_decimal v ++ codes "\n"

abbrev pub fault_line : Fault → Pos → List ℕ
fault_line fault place = codes "== fault " ++ fault_name fault ++ codes " " ++ decimal place.line ++ codes ":" ++ decimal place.col ++ codes "\n"

abbrev pub status_line : Status → List ℕ
status_line Reacting = []
status_line Waits = waiting_line
status_line (HasEnded v) = escape_line v
status_line (HasFaulted e) = fault_line e.0 e.1

abbrev pub bad_line : (number : ℕ) → BadKind → List ℕ
bad_line number kind = codes "== script " ++ decimal number ++ codes " " ++ kind_name kind ++ codes "\n"

-- A bad line counts only where it is reached by a program that waits.
abbrev pub last_line : Option (ℕ × BadKind) → Status → List ℕ
last_line None status = status_line status
last_line (Some b) Waits = bad_line b.0 b.1
last_line (Some b) status = status_line status

-- ---- the lines of a script

abbrev pub commands_of : List (Line Command) → List Command
commands_of [] = []
commands_of (skipped ∷ lines) = commands_of lines
commands_of (content x ∷ lines) = x ∷ commands_of lines
commands_of (bad kind ∷ lines) = commands_of lines

-- the first bad line, with its number; the first line has the number that is given
abbrev pub bad_of : (number : ℕ) → List (Line Command) → Option (ℕ × BadKind)
bad_of number [] = None
bad_of number (skipped ∷ lines) = bad_of (number + 1) lines
bad_of number (content x ∷ lines) = bad_of (number + 1) lines
bad_of number (bad kind ∷ lines) = Some (number, kind)

-- no line is bad
abbrev pub IsGood : List (Line Command) → Type 0
IsGood [] = Unit {0}
IsGood (skipped ∷ lines) = IsGood lines
IsGood (content x ∷ lines) = IsGood lines
IsGood (bad kind ∷ lines) = ⊥

-- ---- the text of a run, where `n` is a bound on the steps of one reaction

module _ (all : Bool) (outputs : List Port) (K : Kernel) (n : ℕ) where
  -- idle turns, one after the other
  abbrev pub turns_text : (turns : ℕ) → Config → List ℕ
  turns_text zero c = []
  turns_text (suc turns) c = new_text all outputs (world_of c).marks (idle_turn K n c) ++ turns_text turns (idle_turn K n c)

  abbrev pub command_text : Command → Config → List ℕ
  command_text (Idle turns) c = turns_text turns c
  command_text (Input event v) c = new_text all outputs (world_of c).marks (done K n (Input event v) c)
  command_text (Advance us) c = new_text all outputs (world_of c).marks (done K n (Advance us) c)

  abbrev pub commands_text : List Command → Config → List ℕ
  commands_text [] c = []
  commands_text (x ∷ xs) c = command_text x c ++ commands_text xs (done K n x c)

  -- from the configuration c on: the lines of each command in order, and how the program stands in the end
  abbrev pub text_from : List (Line Command) → Config → List ℕ
  text_from lines c = commands_text (commands_of lines) c ++ last_line (bad_of 1 lines) (status_of (all_done K n (commands_of lines) c))

  -- of boot, and then of the lines of a script
  abbrev pub run_text : List (Line Command) → List ℕ
  run_text lines = marks_text all outputs (world_of (steps K n (booted K))).marks ++ text_from lines (steps K n (booted K))

-- ---- what a command prints

-- The command is done, and its lines are written: for some bound and every larger one this configuration comes, and this text is printed.
pub record Printed (stands : Config → Type 0) (later : ℕ → Config) (text : ℕ → List ℕ) (held now : Option (List ℕ)) (after : After) : Type 0 where
  pub config : Config
  pub bound : ℕ
  pub comes : (n : ℕ) → bound ≤ n → later n ≡ config
  pub here : stands config
  pub status : status_of config ≡ status_after after
  pub shown : List ℕ
  pub texts : (n : ℕ) → bound ≤ n → text n ≡ shown
  pub written : Appends shown held now

-- A proper prefix of its lines is written.
pub record CutShort (text : ℕ → List ℕ) (held now : Option (List ℕ)) : Type 0 where
  pub bound : ℕ
  pub front : (n : ℕ) → bound ≤ n → AppendsProperFront (text n) held now

abbrev pub Prints : (stands : Config → Type 0) → (later : ℕ → Config) → (text : ℕ → List ℕ) → (held now : Option (List ℕ)) → Result After Failed → Type 0
Prints stands later text held now (Ok after) = Printed stands later text held now after
Prints stands later text held now (Err e) = CutShort text held now
