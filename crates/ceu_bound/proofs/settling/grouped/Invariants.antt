use Rattle.std.proofs.Common.{◌≡◌, ℕ, ◌<◌, length, take}
use Rattle.ceu_tree.specs.Greatest.{total}
use Rattle.ceu_bound.specs.declared.tables.Tables.{Tables}
use Rattle.ceu_bound.specs.Waking.{group_cost, wake_cost}
use Rattle.ceu_bound.proofs.settling.grouped.Given as goal

abbrev pub invariant-loop-wake : goal.invariant-loop-wake
invariant-loop-wake l = (length l.groups.items ≡ l.count) × ((T : Tables) (e : ℕ) → e < l.count → group_cost T e e l.groups.items ≡ total (wake_cost T e) (take l.wake-index l.wakes))
