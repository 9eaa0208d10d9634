use Rattle.std.proofs.Common.{◌≤◌, length}
use Rattle.ceu_bound.proofs.cycles.cycle_numbers.Given as goal

abbrev pub invariant-loop-left : goal.invariant-loop-left
invariant-loop-left l = l.left ≤ length l.done.items

abbrev pub decreases-loop-left : goal.decreases-loop-left
decreases-loop-left l = l.left
