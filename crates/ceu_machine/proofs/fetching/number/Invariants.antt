use Rattle.std.proofs.Common.{◌≡◌, ◌-◌, ◌+◌, ◌≤◌}
use Rattle.ceu_mem.specs.Bytes.{number_at}
use Rattle.ceu_machine.proofs.fetching.number.Given as goal

abbrev pub invariant-loop-left : goal.invariant-loop-left
invariant-loop-left l = (l.left ≤ l.width) × (l.found ≡ number_at (l.width - l.left) l.code (l.at + l.left))

abbrev pub decreases-loop-left : goal.decreases-loop-left
decreases-loop-left l = l.left
