-- A session that runs the image of a compiled program of one trail, beside the reference semantics.
use Rattle.std.specs.Prelude.{◌≡◌, ℕ, List, replicate, Result, Ok, Err}
use Rattle.ceu_code.specs.declared.image.Image.{Image}
use Rattle.ceu_run.specs.declared.reactor.After.{After}
use Rattle.ceu_run.specs.declared.reactor.After.TheVariants as after
use Rattle.ceu_endings.specs.Ends.{EndsTurns}
use Rattle.ceu_follows.specs.Reactions.{Agrees}
use Rattle.ceu_io.specs.declared.outside.Failed.{Failed}
use Rattle.ceu_isa.specs.Layout.{end_of}
use Rattle.ceu_isa.specs.Reactions as machine
use Rattle.ceu_machine.specs.States.{plain}
use Rattle.ceu_react.specs.Sessions.{Seen}
use Rattle.ceu_react.specs.declared.after.After as session
use Rattle.ceu_react.specs.declared.after.After.TheVariants as came
use Rattle.ceu_react.specs.declared.after.State.{State}
use Rattle.ceu_react.specs.declared.after.State.TheVariants.{Fresh, Waiting, Ended, Faulted, Broken}
use Rattle.ceu_shape.specs.Plans.{Plan}
use Rattle.ceu_trail.specs.Compiled.{Compiled}
use Rattle.ceu_tree.specs.declared.kernel.Kernel.{Kernel}
use Rattle.ceu_tree.specs.Run.{Config}

-- a session's answer
abbrev pub answer : session.After → After
answer came.Waiting = after.Waiting
answer (came.Ended v) = after.Ended v
answer (came.Faulted fault place) = after.Faulted fault place

abbrev pub answered : Result session.After Failed → Result After Failed
answered (Ok a) = Ok (answer a)
answered (Err e) = Err e

-- The image is the kernel's, by some plan of its slots and gates.
pub record IsCompiled (image : Image) (K : Kernel) : Type 0 where
  pub plan : Plan
  pub width : ℕ → ℕ
  pub compiled : Compiled image plan width K
  pub ends : EndsTurns K

-- A session as the machine stands. One that wasn't booted, or was given up, isn't between two commands.
abbrev pub config_of : State → List ℕ → machine.Config
config_of Waiting bytes = machine.Waits (plain bytes)
config_of (Ended v) bytes = machine.HasEnded v (plain bytes)
config_of (Faulted fault place) bytes = machine.HasFaulted fault place (plain bytes)
config_of Fresh bytes = machine.Lost
config_of Broken bytes = machine.Lost

-- The session runs the program of the kernel, and wasn't booted yet.
pub record IsFresh (s : Seen) (K : Kernel) : Type 0 where
  pub compiled : IsCompiled s.image K
  pub blank : s.bytes ≡ replicate (end_of s.image) 0
  pub state_is : s.state ≡ Fresh

-- It runs the program of the kernel, and agrees with this configuration of the reference semantics.
pub record StandsAt (image : Image) (state : State) (bytes : List ℕ) (K : Kernel) (c : Config) : Type 0 where
  pub compiled : IsCompiled image K
  pub agrees : Agrees image compiled.plan compiled.width K c (config_of state bytes)

abbrev pub Stands : Seen → Kernel → Config → Type 0
Stands s K c = StandsAt s.image s.state s.bytes K c
