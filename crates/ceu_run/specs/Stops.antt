-- What the lines of a script come to, from a configuration that waits.
use Rattle.std.specs.Prelude.{◌≡◌, ◌⊎◌, ℕ, ◌+◌, ◌-◌, ◌<◌, ◌≤◌, Bool, List, [], ◌++◌, length, take, Option, Some}
use Rattle.ceu_base.specs.declared.kinds.Port.{Port}
use Rattle.ceu_io.specs.Bytes.{Appends, AppendsProperFront}
use Rattle.ceu_io.specs.Counts.{Rose}
use Rattle.ceu_script.specs.Lines.{Line}
use Rattle.ceu_script.specs.Places.{line_start}
use Rattle.ceu_tree.specs.declared.command.Command.{Command}
use Rattle.ceu_tree.specs.declared.kernel.Kernel.{Kernel}
use Rattle.ceu_tree.specs.Run.{Config, Waits, status_of, all_done}
use Rattle.ceu_run.specs.Reactions.{status_after}
use Rattle.ceu_run.specs.Printing.{commands_of, bad_of, IsGood, commands_text, text_from, bad_line, status_line}
use Rattle.ceu_run.specs.Playing.{script_of, ending}
use Rattle.ceu_run.specs.declared.answers.Played.{Played}
use Rattle.ceu_run.specs.declared.answers.Played.TheVariants as played
use Rattle.ceu_run.specs.declared.reactor.After.{After}
use Rattle.ceu_run.specs.declared.reactor.After.TheVariants as after
use Rattle.ceu_run.specs.declared.follow.Stop.{Stop}
use Rattle.ceu_run.specs.declared.follow.Stop.TheVariants.{End, Bad, Read, Write}
use Rattle.ceu_run.specs.declared.follow.Stop.TheVariants as stop

-- The run is over, and its text but for the last line is written. `near` says of a line that little was taken from its start on; the program
-- waits after the lines before it, and their text is written.
pub record Over (line : List ℕ) (answer : Played) (K : Kernel) (c : Config) (all : Bool) (outputs : List Port) (lines : List (Line Command)) (near : ℕ → Type 0) (held now : Option (List ℕ)) : Type 0 where
  pub bound : ℕ
  pub shown : List ℕ
  pub texts : (n : ℕ) → bound ≤ n → text_from all outputs K n lines c ≡ shown ++ line
  pub written : Appends shown held now
  pub ends : (n : ℕ) → bound ≤ n → ending (bad_of 1 lines) (status_of (all_done K n (commands_of lines) c)) ≡ Some answer
  pub before : List (Line Command)
  pub behind : List (Line Command)
  pub parts : lines ≡ before ++ behind
  pub place : near (length before)
  pub before_waits : (n : ℕ) → bound ≤ n → (before ≡ []) ⊎ (status_of (all_done K n (commands_of before) c) ≡ Waits)
  pub before_shown : (n : ℕ) → bound ≤ n → length (commands_text all outputs K n (commands_of before) c) ≤ length shown

-- The sink failed on a command.
pub record Broken (K : Kernel) (c : Config) (all : Bool) (outputs : List Port) (lines : List (Line Command)) (near : ℕ → Type 0) (held now : Option (List ℕ)) : Type 0 where
  pub bound : ℕ
  pub before : List (Line Command)
  pub behind : List (Line Command)
  pub parts : lines ≡ before ++ behind
  pub place : near (length before)
  pub front : (n : ℕ) → bound ≤ n → (m : ℕ) × (m < length (text_from all outputs K n lines c)) × Appends (take m (text_from all outputs K n lines c)) held now × (length (commands_text all outputs K n (commands_of before) c) ≤ m)

-- The source failed behind the lines that were read.
pub record Cut (K : Kernel) (c : Config) (all : Bool) (outputs : List Port) (lines : List (Line Command)) (near : ℕ → Type 0) (held now : Option (List ℕ)) : Type 0 where
  pub read : List (Line Command)
  pub rest : List (Line Command)
  pub lines_are : lines ≡ read ++ rest
  pub good : IsGood read
  pub bound : ℕ
  pub waits : (n : ℕ) → bound ≤ n → status_of (all_done K n (commands_of read) c) ≡ Waits
  pub shown : List ℕ
  pub texts : (n : ℕ) → bound ≤ n → commands_text all outputs K n (commands_of read) c ≡ shown
  pub written : Appends shown held now
  pub end : near (length read - 1)  -- the last of these lines
  pub before : List (Line Command)
  pub behind : List (Line Command)
  pub parts : lines ≡ before ++ behind
  pub place : near (length before)
  pub before_waits : (n : ℕ) → bound ≤ n → (before ≡ []) ⊎ (status_of (all_done K n (commands_of before) c) ≡ Waits)

abbrev pub after_answer : After → Played
after_answer after.Waiting = played.Done
after_answer (after.Ended v) = played.Done
after_answer (after.Faulted fault place) = played.Fault

abbrev pub Stops : Stop → Kernel → Config → Bool → List Port → List (Line Command) → (near : ℕ → Type 0) → (held now : Option (List ℕ)) → Type 0
Stops Read K c all outputs lines near held now = Cut K c all outputs lines near held now
Stops Write K c all outputs lines near held now = Broken K c all outputs lines near held now
Stops End K c all outputs lines near held now = Over (status_line Waits) played.Done K c all outputs lines near held now
Stops (Bad number kind) K c all outputs lines near held now = Over (bad_line number kind) played.Script K c all outputs lines near held now
Stops (stop.Over after) K c all outputs lines near held now = Over (status_line (status_after after)) (after_answer after) K c all outputs lines near held now

-- at most 4,096 bytes were taken from the start of line k, the lines counted from 0
abbrev pub Near : (bytes : List ℕ) → (left : ℕ) → ℕ → Type 0
Near bytes left k = length bytes ≤ left + (line_start k (script_of bytes).bytes + 4096)

-- Which count rose.
abbrev pub StopCause : Stop → (i i' o o' : ℕ) → Type 0
StopCause Read i i' o o' = ((i ≤ i') × Rose i i') × (o' ≡ o)
StopCause Write i i' o o' = (i' ≡ i) × ((o ≤ o') × Rose o o')
StopCause End i i' o o' = (i' ≡ i) × (o' ≡ o)
StopCause (Bad number kind) i i' o o' = (i' ≡ i) × (o' ≡ o)
StopCause (stop.Over after) i i' o o' = (i' ≡ i) × (o' ≡ o)

-- A line is written, or a proper prefix of it where the sink fails.
abbrev pub EndsWith : Played → Played → (line : List ℕ) → (held now : Option (List ℕ)) → (o o' : ℕ) → Type 0
EndsWith result answer line held now o o' =
    ((result ≡ answer) × Appends line held now × (o' ≡ o)) ⊎ ((result ≡ played.Write) × AppendsProperFront line held now × ((o ≤ o') × Rose o o'))

abbrev pub Finishes : Stop → Played → (held now : Option (List ℕ)) → (o o' : ℕ) → Type 0
Finishes Read result held now o o' = (result ≡ played.Read) × (now ≡ held) × (o' ≡ o)
Finishes Write result held now o o' = (result ≡ played.Write) × (now ≡ held) × (o' ≡ o)
Finishes End result held now o o' = EndsWith result played.Done (status_line Waits) held now o o'
Finishes (Bad number kind) result held now o o' = EndsWith result played.Script (bad_line number kind) held now o o'
Finishes (stop.Over after) result held now o o' = EndsWith result (after_answer after) (status_line (status_after after)) held now o o'
