-- The machine that a run leaves.
use Rattle.std.specs.Prelude.{◌≡◌, List, ℕ, Option, Some, None, IfSome, MatchOption, String}
use Rattle.ceu_compile.specs.Images.{IsImageOf}
use Rattle.ceu_compile.specs.Programs.{IsProgram}
use Rattle.ceu_run.specs.Ran.{HasRun}
use Rattle.ceu_run.specs.Printing.{commands_of}
use Rattle.ceu_react.specs.Sessions.{Seen}
use Rattle.ceu_run.specs.Runs.{lines_of}
use Rattle.ceu_tree.specs.declared.kernel.Kernel.{Kernel}
use Rattle.ceu_top.specs.Command.{command_of}
use Rattle.ceu_top.specs.Fetching.{Files}
use Rattle.ceu_top.specs.declared.status.Status.{Status}
use Rattle.ceu_top.specs.declared.status.Status.TheVariants.{Done, Script, Fault}
use Rattle.ceu_top.specs.declared.words.Mode.{Mode}
use Rattle.ceu_top.specs.declared.words.Mode.TheVariants.{Run}

-- The session has the image of the text, and the bytes and the state of the machine behind boot and the commands before the first bad line.
abbrev pub IsMachineOf : (text script : List ℕ) → Seen → Type 0
IsMachineOf text script s = (K : Kernel) × IsProgram text K × IsImageOf K s.image × HasRun s (commands_of (lines_of K script))

-- a session, of which P holds, after a run with one of these statuses; none after any other
abbrev pub AfterRun : Status → (P : Seen → Type 0) → Option Seen → Type 0
AfterRun Done P left = (s : Seen) × (left ≡ Some s) × P s
AfterRun Script P left = (s : Seen) × (left ≡ Some s) × P s
AfterRun Fault P left = (s : Seen) × (left ≡ Some s) × P s
AfterRun _ P left = left ≡ None

-- `run` alone leaves a session
abbrev pub IfRun : Mode → Status → (P : Seen → Type 0) → Option Seen → Type 0
IfRun Run status P left = AfterRun status P left
IfRun _ status P left = left ≡ None

-- What is left with a text, with a file's name, with the words; the session is that of the text where the shelf and the script are told.
abbrev pub IsTextLeft : Mode → Status → (text : List ℕ) → (script : Option (List ℕ)) → Option Seen → Type 0
IsTextLeft mode status text script left = IfRun mode status (λ s. IfSome script (λ bytes. IsMachineOf text bytes s)) left

abbrev pub IsFileLeft : Mode → Status → (file : List ℕ) → Option Files → (script : Option (List ℕ)) → Option Seen → Type 0
IsFileLeft mode status file files script left =
    IfRun mode status (λ s. IfSome files (λ fs. IfSome script (λ bytes. (text : List ℕ) × (fs file ≡ Some text) × IsMachineOf text bytes s))) left

abbrev pub IsLeft : {A : Type 0} → Status → List (String A) → Option Files → (script : Option (List ℕ)) → Option Seen → Type 0
IsLeft status words files script left = MatchOption (command_of words) (left ≡ None) (λ command. IsFileLeft command.0 status command.1 files script left)
