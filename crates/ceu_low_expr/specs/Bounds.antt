-- How much the lines of an expression take.
use Rattle.std.specs.Prelude.{ℕ, ◌+◌, ◌*◌, ◌≤◌, length}
use Rattle.ceu_base.specs.declared.kinds.Pos.{Pos}
use Rattle.ceu_tree.specs.declared.kernel.KExp.{KExp}
use Rattle.ceu_tree.specs.Weight.{exp_count}
use Rattle.ceu_asm.specs.Lines.{code_size}
use Rattle.ceu_shape.specs.Expressions.{exp_draft}

-- at most 14 bytes for each of its nodes, and 4 fewer for the whole
abbrev pub TakeFewBytes : Type 0
TakeFewBytes = (offset : ℕ → ℕ) (e : KExp) (fresh : ℕ) (number : Pos → ℕ) → code_size ((exp_draft offset e fresh).lines number) + 4 ≤ 14 * exp_count e

-- at most two labels for each of its nodes
abbrev pub TakeFewLabels : Type 0
TakeFewLabels = (offset : ℕ → ℕ) (e : KExp) (fresh : ℕ) → (exp_draft offset e fresh).next ≤ fresh + 2 * exp_count e

-- at most one position for each of its nodes
abbrev pub NoteFewPositions : Type 0
NoteFewPositions = (offset : ℕ → ℕ) (e : KExp) (fresh : ℕ) → length (exp_draft offset e fresh).noted ≤ exp_count e
