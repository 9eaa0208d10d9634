use Rattle.std.proofs.Common.{◌≡◌, ◌+◌, take}
use Rattle.ceu_tree.specs.Greatest.{total}
use Rattle.ceu_paths.specs.Cap.{cap}
use Rattle.ceu_bound.specs.Waking.{wake_cost}
use Rattle.ceu_bound.proofs.settling.event_measure.Given as goal

abbrev pub invariant-loop-wake : goal.invariant-loop-wake
invariant-loop-wake l = l.cost ≡ cap (1 + total (wake_cost l.tables l.event) (take l.wake-index l.wakes))
