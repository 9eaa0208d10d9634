-- What the rules on exits and those on loops say of a proper kernel's statements, in the words that the laws on costs ask for (this project's own).
use Rattle.std.specs.Prelude.{◌≡◌, ℕ, Bool, true, List, Some}
use Rattle.ceu_tree.specs.declared.kernel.Kernel.{Kernel}
use Rattle.ceu_tree.specs.declared.kernel.KCode.{KCode}
use Rattle.ceu_tree.specs.declared.kernel.KBlock.{KBlock, out-KBlock}
use Rattle.ceu_tree.specs.Leaf.{code_at}
use Rattle.ceu_tree.specs.Paths.{end_if, quick_block, passes}
use Rattle.ceu_tree.specs.Proper.{Scope, Proper, block_ok}
use Rattle.ceu_bound.specs.PhaseB.{KeepsLoopRules}
use Rattle.laws_bounds_steps.specs.Ways.{out_of}
use Rattle.laws_bounds_steps.specs.Pays.{Fewer}
use Rattle.laws_bounds_steps.specs.Kept.{RulesKept}
use Rattle.laws_bounds_tables.specs.Exits.{AllLead}

-- A block that keeps the rules of its scope is left at its end, or by an exit to one of the aims around it.
abbrev pub ExitsLead : Type 0
ExitsLead = (passing : List Bool) (K : Kernel) (names : List (List ℕ)) (sc : Scope) (b : KBlock) → block_ok K names sc b ≡ true → AllLead sc.aims (quick_block passing b)

-- A proper kernel whose loops break no rule keeps the rules that the laws on costs ask for.
abbrev pub RulesAreKept : Type 0
RulesAreKept = (K : Kernel) → Proper K → KeepsLoopRules K → RulesKept K

-- An exit from a code's body leads to the body itself: so the code is left by its end alone, and only where its body may end or be escaped from.
abbrev pub CodesLeave : Type 0
CodesLeave =
    (passing : List Bool) (K : Kernel) (c : ℕ) (k : KCode) → Proper K → code_at c K.codes ≡ Some k
    → Fewer (out_of (out-KBlock k.body).node (quick_block passing k.body)) (end_if (passes passing k))
