-- A session as its callers see it, and what holds of its memory.
use Rattle.std.specs.Prelude.{ℕ, List, Result, Ok, Err}
use Rattle.std.specs.List.{AllByRecursion}
use Rattle.ceu_code.specs.declared.image.Image.{Image}
use Rattle.ceu_io.specs.declared.outside.Failed.{Failed}
use Rattle.ceu_mem.specs.Memory.{Space}
use Rattle.ceu_tree.specs.declared.command.Command.{Command}
use Rattle.ceu_isa.specs.Reactions.{Config, Waits}
use Rattle.ceu_isa.specs.Commands.{booted, all_done}
use Rattle.ceu_isa.specs.Safety.{IsCommand}
use Rattle.ceu_machine.specs.Holding.{IsMachine}
use Rattle.ceu_machine.specs.States.{plain}
use Rattle.ceu_react.specs.declared.after.After.{After}
use Rattle.ceu_react.specs.declared.after.After.TheVariants as after
use Rattle.ceu_react.specs.declared.after.State.{State}
use Rattle.ceu_react.specs.declared.after.State.TheVariants.{Fresh, Waiting, Ended, Faulted, Broken}
use Rattle.ceu_react.specs.Marking.{IsKept}

-- an image, the bytes of its memory, and how the program stands
pub record Seen : Type 0 where
  pub image : Image
  pub bytes : List ℕ
  pub state : State

-- how the program stands once a command has answered
abbrev pub state_after : Result After Failed → State
state_after (Ok after.Waiting) = Waiting
state_after (Ok (after.Ended v)) = Ended v
state_after (Ok (after.Faulted f p)) = Faulted f p
state_after (Err e) = Broken

-- no list of commands leads from here to something that isn't allowed
abbrev pub GoesOn : Image → Config → Type 0
GoesOn image c = (xs : List Command) → AllByRecursion (IsCommand image) xs → IsKept (all_done image xs c)

-- a program that wasn't booted yet, or waits, goes on with nothing that isn't allowed
abbrev pub Holds : Image → Space → State → Type 0
Holds image mem Fresh = IsMachine image mem × GoesOn image (booted image (plain mem.bytes))
Holds image mem Waiting = IsMachine image mem × GoesOn image (Waits (plain mem.bytes))
Holds image mem (Ended v) = Unit {0}
Holds image mem (Faulted f p) = Unit {0}
Holds image mem Broken = Unit {0}
