-- What a run of a program on a script comes to, of which the source's bytes are told.
use Rattle.std.specs.Prelude.{◌≡◌, ◌⊎◌, ℕ, ◌+◌, ◌-◌, ◌<◌, ◌≤◌, Bool, List, [], ◌++◌, length, take, Option, Some, None, nat_le}
use Rattle.ceu_base.specs.declared.kinds.Port.{Port}
use Rattle.ceu_io.specs.Bytes.{Appends}
use Rattle.ceu_io.specs.Counts.{Rose}
use Rattle.ceu_script.specs.Lines.{Line}
use Rattle.ceu_script.specs.Places.{line_start}
use Rattle.ceu_script.specs.Reader.{Script, budget}
use Rattle.ceu_script.specs.declared.items.BadKind.{BadKind}
use Rattle.ceu_tree.specs.declared.command.Command.{Command}
use Rattle.ceu_tree.specs.declared.kernel.Kernel.{Kernel}
use Rattle.ceu_tree.specs.Run.{Status, Reacting, Waits, HasEnded, HasFaulted, status_of, world_of, booted, steps, run}
use Rattle.ceu_run.specs.Printing.{marks_text, commands_of, bad_of, IsGood, commands_text, run_text}
use Rattle.ceu_run.specs.declared.answers.Played.{Played}
use Rattle.ceu_run.specs.declared.answers.Played.TheVariants.{Done, Fault, Script as BadScript, Read, Write}

-- the script of some bytes
abbrev pub script_of : List ℕ → Script
script_of bytes = record { cut = nat_le budget (length bytes); bytes = take budget bytes }

-- how a run ends that nothing outside stopped
abbrev pub of_status : Status → Option Played
of_status Reacting = None
of_status Waits = Some Done
of_status (HasEnded v) = Some Done
of_status (HasFaulted e) = Some Fault

abbrev pub ending : Option (ℕ × BadKind) → Status → Option Played
ending None status = of_status status
ending (Some b) Waits = Some BadScript
ending (Some b) status = of_status status

abbrev pub run_ending : Kernel → ℕ → List (Line Command) → Option Played
run_ending K n lines = ending (bad_of 1 lines) (status_of (run K n (commands_of lines)))

-- the lines of boot and of some commands
abbrev pub shown_text : Bool → List Port → Kernel → ℕ → List Command → List ℕ
shown_text all outputs K n xs = marks_text all outputs (world_of (steps K n (booted K))).marks ++ commands_text all outputs K n xs (steps K n (booted K))

-- At most 4,096 bytes were taken from the start of a line that is reached: the program waits after the lines before it.
pub record TakesLittle (K : Kernel) (lines : List (Line Command)) (bytes : List ℕ) (left : ℕ) : Type 0 where
  pub before : List (Line Command)
  pub behind : List (Line Command)
  pub lines_are : lines ≡ before ++ behind
  pub bound : ℕ
  -- for the first line nothing is asked
  pub waits : (n : ℕ) → bound ≤ n → (before ≡ []) ⊎ (status_of (run K n (commands_of before)) ≡ Waits)
  pub taken : length bytes ≤ left + (line_start (length before) (script_of bytes).bytes + 4096)

-- The whole text is written, and the answer is how the run ends.
pub record Whole (answer : Played) (K : Kernel) (lines : List (Line Command)) (all : Bool) (outputs : List Port) (held now : Option (List ℕ)) : Type 0 where
  pub bound : ℕ
  pub text : List ℕ
  pub texts : (n : ℕ) → bound ≤ n → run_text all outputs K n lines ≡ text
  pub written : Appends text held now
  pub ends : (n : ℕ) → bound ≤ n → run_ending K n lines ≡ Some answer

-- The source failed behind some whole lines. None of them is bad, the program waits after them, and their text is written, without a status line.
pub record StopsReading (K : Kernel) (lines : List (Line Command)) (bytes : List ℕ) (left : ℕ) (all : Bool) (outputs : List Port) (held now : Option (List ℕ)) : Type 0 where
  pub before : List (Line Command)
  pub behind : List (Line Command)
  pub lines_are : lines ≡ before ++ behind
  pub good : IsGood before
  -- at most 4,096 bytes were taken from the start of the last of these lines
  pub taken : length bytes ≤ left + (line_start (length before - 1) (script_of bytes).bytes + 4096)
  pub bound : ℕ
  pub waits : (n : ℕ) → bound ≤ n → status_of (run K n (commands_of before)) ≡ Waits
  pub text : List ℕ
  pub texts : (n : ℕ) → bound ≤ n → shown_text all outputs K n (commands_of before) ≡ text
  pub written : Appends text held now

-- The sink failed: a proper prefix of the text is written. At most 4,096 bytes were taken from the start of a line, and the text of the lines
-- before it is written.
pub record StopsWriting (K : Kernel) (lines : List (Line Command)) (bytes : List ℕ) (left : ℕ) (all : Bool) (outputs : List Port) (held now : Option (List ℕ)) : Type 0 where
  pub before : List (Line Command)
  pub behind : List (Line Command)
  pub lines_are : lines ≡ before ++ behind
  pub taken : length bytes ≤ left + (line_start (length before) (script_of bytes).bytes + 4096)
  pub bound : ℕ
  pub front : (n : ℕ) → bound ≤ n → (m : ℕ) × (m < length (run_text all outputs K n lines)) × Appends (take m (run_text all outputs K n lines)) held now
      × ((before ≡ []) ⊎ (length (shown_text all outputs K n (commands_of before)) ≤ m))

abbrev pub Plays : Played → Kernel → List (Line Command) → (bytes : List ℕ) → (left : ℕ) → Bool → List Port → (held now : Option (List ℕ)) → Type 0
Plays Read K lines bytes left all outputs held now = StopsReading K lines bytes left all outputs held now × TakesLittle K lines bytes left
Plays Write K lines bytes left all outputs held now = StopsWriting K lines bytes left all outputs held now
Plays Done K lines bytes left all outputs held now = Whole Done K lines all outputs held now × TakesLittle K lines bytes left
Plays Fault K lines bytes left all outputs held now = Whole Fault K lines all outputs held now × TakesLittle K lines bytes left
Plays BadScript K lines bytes left all outputs held now = Whole BadScript K lines all outputs held now × TakesLittle K lines bytes left

-- Which count rose: of the source (i) and of the sink (o).
abbrev pub PlayCause : Played → (i i' o o' : ℕ) → Type 0
PlayCause Read i i' o o' = ((i ≤ i') × Rose i i') × (o' ≡ o)
PlayCause Write i i' o o' = (i' ≡ i) × ((o ≤ o') × Rose o o')
PlayCause Done i i' o o' = (i' ≡ i) × (o' ≡ o)
PlayCause Fault i i' o o' = (i' ≡ i) × (o' ≡ o)
PlayCause BadScript i i' o o' = (i' ≡ i) × (o' ≡ o)
