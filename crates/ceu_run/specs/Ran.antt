-- A session that has run, beside the run of its image by the machine's definition.
use Rattle.std.specs.Prelude.{◌≡◌, List, Option, Some, None}
use Rattle.ceu_isa.specs.Commands.{bytes_of, run}
use Rattle.ceu_isa.specs.Reactions as machine
use Rattle.ceu_react.specs.Sessions.{Seen}
use Rattle.ceu_react.specs.declared.after.State.{State}
use Rattle.ceu_react.specs.declared.after.State.TheVariants.{Waiting, Ended, Faulted}
use Rattle.ceu_tree.specs.declared.command.Command.{Command}

-- How a program stands in a configuration of the machine. One that is lost has no such state.
abbrev pub state_of : machine.Config → Option State
state_of machine.Lost = None
state_of (machine.Waits m) = Some Waiting
state_of (machine.HasEnded v m) = Some (Ended v)
state_of (machine.HasFaulted fault place m) = Some (Faulted fault place)

-- The session stands as the machine does behind boot and these commands: it has those bytes, and that state.
pub record HasRun (s : Seen) (xs : List Command) : Type 0 where
  pub bytes_are : s.bytes ≡ bytes_of (run s.image xs)
  pub state_is : state_of (run s.image xs) ≡ Some s.state

-- The first session came to the second one by boot and these commands.
pub record RanTo (start now : Seen) (xs : List Command) : Type 0 where
  pub image_is : now.image ≡ start.image
  pub has_run : HasRun now xs
