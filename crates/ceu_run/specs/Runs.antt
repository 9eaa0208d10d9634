-- What the run of a program on a script prints, by the reference semantics: a first line, the output lines of boot and of each command that is reached,
-- and the status line. `n` is any bound on the steps of a reaction that is large enough.
use Rattle.std.specs.Prelude.{◌≡◌, ◌⊎◌, ℕ, ◌+◌, ◌-◌, ◌<◌, ◌≤◌, false, List, [], ◌++◌, length, take, Option, Some}
use Rattle.ceu_run.specs.Printing.{commands_of, IsGood, run_text}
use Rattle.ceu_run.specs.Playing.{run_ending, shown_text, script_of, TakesLittle}
use Rattle.ceu_run.specs.declared.answers.Played.{Played}
use Rattle.ceu_run.specs.declared.answers.Played.TheVariants as played
use Rattle.ceu_io.specs.Bytes.{Appends}
use Rattle.ceu_script.specs.Lines.{Line, script}
use Rattle.ceu_script.specs.Places.{line_start}
use Rattle.ceu_tree.specs.declared.command.Command.{Command}
use Rattle.ceu_tree.specs.declared.kernel.Kernel.{Kernel}
use Rattle.ceu_tree.specs.Run.{Waits, status_of, run}

-- the lines of a script's bytes
abbrev pub lines_of : Kernel → List ℕ → List (Line Command)
lines_of K bytes = script K.inputs (script_of bytes)

-- This is what is printed, and the run ends so.
pub record IsRun (answer : Played) (first : List ℕ) (K : Kernel) (bytes written : List ℕ) : Type 0 where
  pub bound : ℕ
  pub texts : (n : ℕ) → bound ≤ n → first ++ run_text false K.outputs K n (lines_of K bytes) ≡ written
  pub ends : (n : ℕ) → bound ≤ n → run_ending K n (lines_of K bytes) ≡ Some answer

-- A proper prefix of what is printed is written. At most 4,096 bytes of the script were taken from the start of a line, and the text of the lines
-- before that one is written.
pub record IsCut (first : List ℕ) (K : Kernel) (bytes : List ℕ) (left : ℕ) (held now : Option (List ℕ)) : Type 0 where
  pub before : List (Line Command)
  pub behind : List (Line Command)
  pub lines_are : lines_of K bytes ≡ before ++ behind
  pub taken : length bytes ≤ left + (line_start (length before) (script_of bytes).bytes + 4096)
  pub bound : ℕ
  pub front : (n : ℕ) → bound ≤ n → (m : ℕ) × (m < length (first ++ run_text false K.outputs K n (lines_of K bytes))) × Appends (take m (first ++ run_text false K.outputs K n (lines_of K bytes))) held now
      × ((before ≡ []) ⊎ (length (first ++ shown_text false K.outputs K n (commands_of before)) ≤ m))

-- This is what is printed for some whole lines of the script, without a status line; none of them is bad, and the program waits after them. At
-- most 4,096 bytes were taken from the start of the last of these lines.
pub record IsUpTo (first : List ℕ) (K : Kernel) (bytes : List ℕ) (left : ℕ) (written : List ℕ) : Type 0 where
  pub before : List (Line Command)
  pub behind : List (Line Command)
  pub lines_are : lines_of K bytes ≡ before ++ behind
  pub good : IsGood before
  pub taken : length bytes ≤ left + (line_start (length before - 1) (script_of bytes).bytes + 4096)
  pub bound : ℕ
  pub waits : (n : ℕ) → bound ≤ n → status_of (run K n (commands_of before)) ≡ Waits
  pub texts : (n : ℕ) → bound ≤ n → first ++ shown_text false K.outputs K n (commands_of before) ≡ written

-- what was written with an answer, and how many bytes of the script were taken
abbrev pub RunPrints : Played → (first : List ℕ) → Kernel → (bytes : List ℕ) → (left : ℕ) → (held now : Option (List ℕ)) → Type 0
RunPrints played.Write first K bytes left held now = IsCut first K bytes left held now
RunPrints played.Read first K bytes left held now = ((written : List ℕ) × IsUpTo first K bytes left written × Appends written held now) × TakesLittle K (lines_of K bytes) bytes left
RunPrints answer first K bytes left held now = ((written : List ℕ) × IsRun answer first K bytes written × Appends written held now) × TakesLittle K (lines_of K bytes) bytes left
