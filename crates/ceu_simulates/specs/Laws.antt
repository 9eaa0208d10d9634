-- The laws on compiled programs of one trail: their runs and the soundness of their images.
use Rattle.std.specs.Prelude.{ℕ, List}
use Rattle.std.specs.List.{AllByRecursion}
use Rattle.ceu_code.specs.declared.image.Image.{Image}
use Rattle.ceu_isa.specs.Commands as commands
use Rattle.ceu_isa.specs.Commands.{marks_of}
use Rattle.ceu_isa.specs.Safety.{IsCommand, IsSound}
use Rattle.ceu_tree.specs.declared.command.Command.{Command}
use Rattle.ceu_tree.specs.declared.kernel.Kernel.{Kernel}
use Rattle.ceu_tree.specs.Run.{Runs}
use Rattle.ceu_shape.specs.Plans.{Plan}
use Rattle.ceu_endings.specs.Ends.{EndsTurns}
use Rattle.ceu_trail.specs.Compiled.{Compiled}
use Rattle.ceu_follows.specs.Laws.{outcome_of}

-- The run of the machine on a compiled image has the marks and the outcome of the run by the reference semantics, whatever commands come.
abbrev pub CompiledProgramsRun : Type 0
CompiledProgramsRun =
    (image : Image) (P : Plan) (width : ℕ → ℕ) (K : Kernel) (xs : List Command)
    → Compiled image P width K → EndsTurns K → AllByRecursion (IsCommand image) xs
    → Runs K xs (marks_of (commands.run image xs)) (outcome_of (commands.run image xs))

-- In no run of it anything is done that isn't allowed.
abbrev pub CompiledImagesAreSound : Type 0
CompiledImagesAreSound = (image : Image) (P : Plan) (width : ℕ → ℕ) (K : Kernel) → Compiled image P width K → EndsTurns K → IsSound image
