use Rattle.std.proofs.Common.{◌≡◌, ℕ, ◌+◌, take}
use Rattle.ceu_tree.specs.Greatest.{total}
use Rattle.ceu_bound.specs.declared.tables.Tables.{Tables}
use Rattle.ceu_bound.specs.Waking as spec
use Rattle.ceu_bound.proofs.emissions.codes_wakes.Given as goal

abbrev pub invariant-loop-code : goal.invariant-loop-code
invariant-loop-code l = (T : Tables) (e : ℕ) → total (spec.wake_cost T e) l.wakes.items ≡
    total (spec.wake_cost T e) l.initial.wakes.items + spec.codes_cost T e l.events 0 (take l.code l.codes) l.instances
