-- The laws: turns, reactions, commands and runs of the machine on the code of a program of one trail, where one step in a turn is as it should be.
use Rattle.std.specs.Prelude.{◌≡◌, ℕ, List, [], Some, None}
use Rattle.std.specs.List.{AllByRecursion}
use Rattle.ceu_base.specs.declared.kinds.Mark.{Mark}
use Rattle.ceu_code.specs.declared.image.Image.{Image}
use Rattle.ceu_isa.specs.declared.registers.Registers.{Registers}
use Rattle.ceu_isa.specs.Commands as commands
use Rattle.ceu_isa.specs.Commands.{blank, marks_of}
use Rattle.ceu_isa.specs.Order.{Nowhere}
use Rattle.ceu_isa.specs.Reactions as machine
use Rattle.ceu_isa.specs.Reactions.{first_at, reaction}
use Rattle.ceu_isa.specs.Safety.{IsCommand, IsSound}
use Rattle.ceu_isa.specs.Turns.{Machine, Trail}
use Rattle.ceu_tree.specs.declared.command.Command.{Command}
use Rattle.ceu_tree.specs.declared.kernel.Kernel.{Kernel}
use Rattle.ceu_tree.specs.Residual.{Act, Residual}
use Rattle.ceu_tree.specs.Focus.{Focus, choose}
use Rattle.ceu_tree.specs.Wake.{runs_at}
use Rattle.ceu_tree.specs.World.{World}
use Rattle.ceu_tree.specs.Run.{Config, Turning, Between, steps, booted, done, run, world_of, Status, Reacting, Waits, HasEnded, HasFaulted, Runs}
use Rattle.ceu_shape.specs.Plans.{Plan}
use Rattle.ceu_endings.specs.Ends.{EndsTurns}
use Rattle.ceu_trail.specs.Compiled.{Compiled}
use Rattle.ceu_trail.specs.Laws.{StepsAreDone}
use Rattle.ceu_trail.specs.Turning.{TurnStands}
use Rattle.ceu_follows.specs.Kept.{Kept}
use Rattle.ceu_follows.specs.Turns.{StandsBetween, TurnDone, TurnBegun}
use Rattle.ceu_follows.specs.Reactions.{Agrees, Follows}

-- A turn comes to what that of the reference semantics comes to.
abbrev pub TurnsAreDone : Type 0
TurnsAreDone =
    (image : Image) (P : Plan) (width : ℕ → ℕ) (K : Kernel) (f : Focus Act) (w : World) (r : Registers) (m : Machine)
    → StepsAreDone → Compiled image P width K → EndsTurns K → Kept K (Turning 0 f w) → TurnStands image P width K f w r m.bytes
    → TurnDone image P width K w m (Turning 0 f w) (Trail r m)

-- A trail that can run begins its turn,
abbrev pub TurnsBegin : Type 0
TurnsBegin =
    (image : Image) (P : Plan) (width : ℕ → ℕ) (K : Kernel) (r : Residual) (w : World) (m : Machine) (f : Focus Act)
    → Compiled image P width K → Kept K (Between 0 r w) → StandsBetween image P width K r w m → choose Act (runs_at 0) r ≡ Some f
    → TurnBegun image P width K f w m

-- and where none can, no gate is found.
abbrev pub NoneBegins : Type 0
NoneBegins =
    (image : Image) (P : Plan) (width : ℕ → ℕ) (K : Kernel) (r : Residual) (w : World) (m : Machine)
    → Compiled image P width K → Kept K (Between 0 r w) → StandsBetween image P width K r w m → choose Act (runs_at 0) r ≡ None
    → first_at image 0 m.bytes ≡ Nowhere

-- A reaction comes to what that of the reference semantics comes to.
abbrev pub ReactionsFollow : Type 0
ReactionsFollow =
    (image : Image) (P : Plan) (width : ℕ → ℕ) (K : Kernel) (r : Residual) (w : World) (m : Machine)
    → StepsAreDone → Compiled image P width K → EndsTurns K → Kept K (Between 0 r w) → StandsBetween image P width K r w m
    → Follows image P width K w.marks m.marks (λ n. steps K n (Between 0 r w)) (reaction image image.turns m)

-- Marks that the machine has made are no part of this, so that each command may begin with none.
abbrev pub MarksAreNoPart : Type 0
MarksAreNoPart =
    (image : Image) (P : Plan) (width : ℕ → ℕ) (K : Kernel) (c : Config) (bytes : List ℕ) (ms ns : List Mark)
    → Agrees image P width K c (machine.Waits (record { bytes = bytes; marks = ms })) → Agrees image P width K c (machine.Waits (record { bytes = bytes; marks = ns }))

-- So it is with boot, and with each command from configurations that agree.
abbrev pub BootFollows : Type 0
BootFollows =
    (image : Image) (P : Plan) (width : ℕ → ℕ) (K : Kernel) → StepsAreDone → Compiled image P width K → EndsTurns K
    → Follows image P width K [] [] (λ n. steps K n (booted K)) (commands.booted image (blank image))

abbrev pub CommandsFollow : Type 0
CommandsFollow =
    (image : Image) (P : Plan) (width : ℕ → ℕ) (K : Kernel) (x : Command) (c : Config) (d : machine.Config)
    → StepsAreDone → Compiled image P width K → EndsTurns K → IsCommand image x → Agrees image P width K c d
    → Follows image P width K (world_of c).marks (marks_of d) (λ n. done K n x c) (commands.done image x d)

-- and with whole runs.
abbrev pub RunsFollow : Type 0
RunsFollow =
    (image : Image) (P : Plan) (width : ℕ → ℕ) (K : Kernel) (xs : List Command)
    → StepsAreDone → Compiled image P width K → EndsTurns K → AllByRecursion (IsCommand image) xs
    → Follows image P width K [] [] (λ n. run K n xs) (commands.run image xs)

-- The marks and the outcome of a run of the machine are those of the run by the reference semantics.
abbrev pub outcome_of : machine.Config → Status
outcome_of machine.Lost = Reacting
outcome_of (machine.Waits m) = Waits
outcome_of (machine.HasEnded v m) = HasEnded v
outcome_of (machine.HasFaulted f p m) = HasFaulted (f, p)

abbrev pub RunsAreDone : Type 0
RunsAreDone =
    (image : Image) (P : Plan) (width : ℕ → ℕ) (K : Kernel) (xs : List Command)
    → StepsAreDone → Compiled image P width K → EndsTurns K → AllByRecursion (IsCommand image) xs
    → Runs K xs (marks_of (commands.run image xs)) (outcome_of (commands.run image xs))

-- So the machine never does anything that isn't allowed.
abbrev pub ImageIsSound : Type 0
ImageIsSound = (image : Image) (P : Plan) (width : ℕ → ℕ) (K : Kernel) → StepsAreDone → Compiled image P width K → EndsTurns K → IsSound image
