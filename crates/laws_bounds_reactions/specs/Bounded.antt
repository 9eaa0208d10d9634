-- Reactions within the bounds of their program (this project's own): no more turns begin and no more levels open in one than are printed of the program,
-- as its marks tell; its levels lie within as many; and it ends.
use Rattle.std.specs.Prelude.{◌≡◌, ◌≤◌, ℕ, ◌+◌, false}
use Rattle.ceu_tree.specs.declared.kernel.Kernel.{Kernel}
use Rattle.ceu_tree.specs.Costs.{bounds}
use Rattle.ceu_tree.specs.Run.{Config, world_of, steps, is_reacting}
use Rattle.ceu_endings.specs.Laws.{resumes}
use Rattle.laws_bounds_steps.specs.Programs.{level_of}
use Rattle.laws_bounds_turns.specs.Marked.{pushes, unharmed}

-- from c, where a reaction begins, after any number of its steps. Levels are told by their marks where no finalizer had failed.
pub record IsBounded (K : Kernel) (c : Config) : Type 0 where
  pub turns : (k : ℕ) → resumes (world_of (steps K k c)).marks ≤ resumes (world_of c).marks + (bounds K).turns
  pub opens : unharmed c → (k : ℕ) → pushes (world_of (steps K k c)).marks ≤ pushes (world_of c).marks + (bounds K).opens
  pub level : (k : ℕ) → level_of (steps K k c) ≤ (bounds K).opens
  pub ends : (count : ℕ) × (is_reacting (steps K count c) ≡ false)
