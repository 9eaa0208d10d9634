use Rattle.std.proofs.Common.{◌≡◌, ℕ, ◌<◌, ◌≤◌, length, get_or}
use Rattle.ceu_tree.specs.Costs.{instances_from}
use Rattle.ceu_paths.specs.Cap.{cap}
use Rattle.ceu_bound.proofs.InstanceLaws.{held_from}
use Rattle.ceu_bound.proofs.instances.instances.Given as goal

abbrev pub invariant-loop-left : goal.invariant-loop-left
invariant-loop-left l = (l.left ≤ length l.kernel.codes) × (length l.counts.items ≡ length l.kernel.codes) ×
    ((j : ℕ) → j < l.left → cap (get_or l.counts.items j 0) ≡ cap (held_from l.kernel.body l.kernel.codes j l.left)) ×
    ((j : ℕ) → l.left ≤ j → j < length l.kernel.codes → get_or l.counts.items j 0 ≡ cap (get_or (instances_from l.kernel.body 0 l.kernel.codes) j 0))

abbrev pub decreases-loop-left : goal.decreases-loop-left
decreases-loop-left l = l.left
