-- The machine that a run leaves.
use Rattle.std.specs.Prelude.{◌≡◌, ℕ, List, Option, Some, None, Result, Ok, Err}
use Rattle.std.specs.declared.alloc.AllocError.{AllocError}
use Rattle.ceu_code.specs.declared.image.Image.{Image}
use Rattle.ceu_run.specs.Ran.{HasRun}
use Rattle.ceu_run.specs.Printing.{commands_of}
use Rattle.ceu_run.specs.declared.answers.Played.{Played}
use Rattle.ceu_run.specs.declared.answers.Played.TheVariants as played
use Rattle.ceu_io.specs.Told.{WhereTold}
use Rattle.ceu_react.specs.Sessions.{Seen}
use Rattle.ceu_run.specs.Runs.{lines_of}
use Rattle.ceu_tree.specs.declared.command.Command.{Command}
use Rattle.ceu_tree.specs.declared.kernel.Kernel.{Kernel}

-- A session of this image that stands as the machine does behind boot and these commands.
pub record IsOf (image : Image) (xs : List Command) (s : Seen) : Type 0 where
  pub image_is : s.image ≡ image
  pub has_run : HasRun s xs

-- There is a session, and it has run the commands of the script before its first bad line, where the script's bytes are told.
pub record IsLeft (image : Image) (K : Kernel) (old now : Option (List ℕ)) (left : Option Seen) : Type 0 where
  pub session : Seen
  pub is : left ≡ Some session
  pub has_run : WhereTold old now (λ bytes rest. IsOf image (commands_of (lines_of K bytes)) session)

-- A run that came to its end leaves its session. One that the source or the sink stopped, or that found no memory, leaves none.
abbrev pub Leaves : Result Played AllocError → Image → Kernel → (old now : Option (List ℕ)) → Option Seen → Type 0
Leaves (Ok played.Done) image K old now left = IsLeft image K old now left
Leaves (Ok played.Fault) image K old now left = IsLeft image K old now left
Leaves (Ok played.Script) image K old now left = IsLeft image K old now left
Leaves (Ok played.Read) image K old now left = left ≡ None
Leaves (Ok played.Write) image K old now left = left ≡ None
Leaves (Err e) image K old now left = left ≡ None
