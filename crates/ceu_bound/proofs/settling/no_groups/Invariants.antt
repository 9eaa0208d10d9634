use Rattle.std.proofs.Common.{◌≡◌, ℕ, length}
use Rattle.ceu_bound.specs.declared.tables.Tables.{Tables}
use Rattle.ceu_bound.specs.Waking.{group_cost}
use Rattle.ceu_bound.proofs.settling.no_groups.Given as goal

abbrev pub invariant-loop-done : goal.invariant-loop-done
invariant-loop-done l = (length l.groups.items ≡ l.done) × ((T : Tables) (e k : ℕ) → group_cost T e k l.groups.items ≡ 0)
