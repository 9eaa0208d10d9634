-- The laws on the types of values in the configurations of a proper kernel.
use Rattle.std.specs.Prelude.{◌≡◌, ℕ, true, List, [], ◌∷◌}
use Rattle.ceu_tree.specs.declared.command.Command.{Command}
use Rattle.ceu_tree.specs.declared.kernel.Kernel.{Kernel}
use Rattle.ceu_tree.specs.Residual.{Program, Residual}
use Rattle.ceu_tree.specs.World.{World}
use Rattle.ceu_tree.specs.Proper.{Proper}
use Rattle.ceu_tree.specs.Legal.{Seated, seats}
use Rattle.ceu_tree.specs.Run.{Config, Waiting, booted, next, steps, done, run}
use Rattle.laws_meaning_basics.specs.Shape.{ConfigFits}
use Rattle.laws_meaning_counters.specs.Laws.{each_loop, counter_legal}
use Rattle.laws_meaning_types.specs.Stores.{StoresTyped, CommandTyped}
use Rattle.laws_meaning_types.specs.Cells.{cells_legal}

abbrev pub BootTyped : Type 0
BootTyped = (K : Kernel) → StoresTyped K (booted K)

abbrev pub StepTyped : Type 0
StepTyped = (K : Kernel) (c : Config) → Proper K → ConfigFits K c → StoresTyped K c → StoresTyped K (next K c)

abbrev pub ReactionTyped : Type 0
ReactionTyped = (K : Kernel) (n : ℕ) (c : Config) → Proper K → ConfigFits K c → StoresTyped K c → StoresTyped K (steps K n c)

abbrev pub CommandKeepsTyped : Type 0
CommandKeepsTyped = (K : Kernel) (n : ℕ) (x : Command) (c : Config) → Proper K → ConfigFits K c → CommandTyped K x → StoresTyped K c → StoresTyped K (done K n x c)

abbrev pub all_commands_typed : Kernel → List Command → Type 0
all_commands_typed K [] = Unit {0}
all_commands_typed K (x ∷ xs) = CommandTyped K x × all_commands_typed K xs

abbrev pub RunTyped : Type 0
RunTyped = (K : Kernel) (n : ℕ) (xs : List Command) → Proper K → all_commands_typed K xs → StoresTyped K (run K n xs)

-- ---- in the words of legality

-- Where such a run waits, each cell that an open variable, alias or parameter holds is one of a legal configuration.
abbrev pub RunCellsLegal : Type 0
RunCellsLegal =
    (K : Kernel) (n : ℕ) (xs : List Command) (r : Residual) (w : World) → Proper K → all_commands_typed K xs → run K n xs ≡ Waiting r w
    → cells_legal K w (seats r Program) r Program [] ≡ true

-- So is the counter of each open loop.
abbrev pub RunLoopsLegal : Type 0
RunLoopsLegal =
    (K : Kernel) (n : ℕ) (xs : List Command) (r : Residual) (w : World) (found : List Seated) → Proper K → all_commands_typed K xs → run K n xs ≡ Waiting r w
    → each_loop (counter_legal K w found) Program r
