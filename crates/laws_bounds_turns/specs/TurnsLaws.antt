-- Each turn of a trail ends, in every program that breaks no rule on loops, and so does each turn of an async (this project's own).
use Rattle.std.specs.Prelude.{◌≡◌, ◌≤◌, ℕ, Bool, true, false, [], Some}
use Rattle.ceu_tree.specs.declared.kernel.Kernel.{Kernel}
use Rattle.ceu_tree.specs.declared.kernel.KCode.{KCode}
use Rattle.ceu_tree.specs.declared.kernel.KBlock.{out-KBlock}
use Rattle.ceu_tree.specs.Residual.{Body, Act, Residual}
use Rattle.ceu_tree.specs.Focus.{Focus}
use Rattle.ceu_tree.specs.World.{World}
use Rattle.ceu_tree.specs.Leaf.{code_at}
use Rattle.ceu_tree.specs.Paths.{end_if, flag, quick_block, passes_from}
use Rattle.ceu_tree.specs.Proper.{Proper}
use Rattle.ceu_tree.specs.Run.{Turning, Between, steps, is_reacting, Served, Unfinished, serve}
use Rattle.laws_meaning_basics.specs.Shape.{ConfigFits}
use Rattle.ceu_endings.specs.Counted.{Counted}
use Rattle.ceu_endings.specs.Laws.{is_turning}
use Rattle.laws_bounds_steps.specs.Ways.{out_of}
use Rattle.laws_bounds_steps.specs.Pays.{Fewer}
use Rattle.laws_bounds_steps.specs.Kept.{RulesKept}
use Rattle.laws_bounds_steps.specs.Programs.{turns_begun}

-- An await of code may go on at once where the table says that it does, and code is left by its end alone.
abbrev pub CodesLeave : Kernel → Type 0
CodesLeave K = (c : ℕ) (k : KCode) → code_at c K.codes ≡ Some k
    → Fewer (out_of (out-KBlock k.body).node (quick_block (passes_from [] K.codes) k.body)) (end_if (flag c (passes_from [] K.codes)))

-- From each configuration in a turn the turn is over after some number of steps.
abbrev pub TurnsAreOver : Type 0
TurnsAreOver = (K : Kernel) (n : ℕ) (f : Focus Act) (w : World) → RulesKept K → CodesLeave K → ConfigFits K (Turning n f w) → Counted (Turning n f w)
    → (count : ℕ) × (is_turning (steps K count (Turning n f w)) ≡ false)

-- So a reaction in which no more turns begin than some number is over after some number of steps.
abbrev pub ReactionsAreOver : Type 0
ReactionsAreOver = (K : Kernel) (turns n : ℕ) (r : Residual) (w : World) → RulesKept K → CodesLeave K → ConfigFits K (Between n r w) → Counted (Between n r w)
    → ((k : ℕ) → turns_begun K k (Between n r w) ≤ turns) → (count : ℕ) × (is_reacting (steps K count (Between n r w)) ≡ false)

-- ---- asyncs

abbrev pub is_finished : Served → Bool
is_finished Unfinished = false
is_finished s = true

-- However the trail of an async stands, its turn is over after some number of steps: a loop's turn is completed at the latest. It has to keep no rule on loops.
abbrev pub ServingsEnd : Type 0
ServingsEnd = (K : Kernel) (root : Body) (f : Focus Act) (w : World) → Proper K → (count : ℕ) × (is_finished (serve K count root f w) ≡ true)
