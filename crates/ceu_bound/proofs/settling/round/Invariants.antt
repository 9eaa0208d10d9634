use Rattle.std.proofs.Common.{◌≡◌, ℕ, ◌+◌, ◌<◌, length, take, get_or}
use Rattle.ceu_tree.specs.Greatest.{total}
use Rattle.ceu_paths.specs.Cap.{cap}
use Rattle.ceu_bound.specs.Waking as spec
use Rattle.ceu_bound.proofs.settling.round.Given as goal

abbrev pub invariant-loop-wake : goal.invariant-loop-wake
invariant-loop-wake l = (length l.costs.items ≡ l.count) × ((e : ℕ) → e < l.count → get_or l.costs.items e 0 ≡ cap (1 + total (spec.wake_cost l.tables e) (take l.wake-index l.wakes)))
