-- The marks of a reaction tell the turns that begin and the levels that open (this project's own).
use Rattle.std.specs.Prelude.{◌≡◌, ℕ, ◌+◌, false, None}
use Rattle.ceu_tree.specs.declared.kernel.Kernel.{Kernel}
use Rattle.ceu_tree.specs.Run.{Config, is_reacting, steps, world_of}
use Rattle.ceu_endings.specs.Laws.{resumes}
use Rattle.laws_bounds_steps.specs.Programs.{turns_begun, levels_opened}
use Rattle.laws_bounds_turns.specs.Marked.{pushes, unharmed}

-- Each turn that begins adds one mark of a turn, and nothing else does.
abbrev pub TurnsAreMarked : Type 0
TurnsAreMarked = (K : Kernel) (k : ℕ) (c : Config) → resumes (world_of (steps K k c)).marks ≡ resumes (world_of c).marks + turns_begun K k c

-- Where no finalizer has failed before, each level that opens adds one mark of a level, and nothing else does. (After such a fault a step that emits or
-- spawns adds the mark, and the program stops before the level opens.)
abbrev pub LevelsAreMarked : Type 0
LevelsAreMarked = (K : Kernel) (k : ℕ) (c : Config) → (world_of c).fault ≡ None → pushes (world_of (steps K k c)).marks ≡ pushes (world_of c).marks + levels_opened K k c

-- Of a reaction that is over that holds whatever fault has come: no level opens and no mark is added.
abbrev pub OverIsMarked : Type 0
OverIsMarked = (K : Kernel) (k : ℕ) (c : Config) → is_reacting c ≡ false → pushes (world_of (steps K k c)).marks ≡ pushes (world_of c).marks + levels_opened K k c

-- A finalizer that fails stops the program at once, so a reaction that began with no such fault noted goes on, waits and ends with none.
abbrev pub FaultsStop : Type 0
FaultsStop = (K : Kernel) (k : ℕ) (c : Config) → unharmed c → unharmed (steps K k c)
