use Rattle.std.proofs.Common.{◌≡◌, ℕ, ◌+◌, ◌*◌, take, map}
use Rattle.ceu_tree.specs.Greatest.{total}
use Rattle.ceu_paths.specs.Found.{seen}
use Rattle.ceu_bound.specs.declared.tables.Tables.{Tables}
use Rattle.ceu_bound.specs.Waking as spec
use Rattle.ceu_bound.proofs.emissions.add_wakes.Given as goal

abbrev pub invariant-loop-found : goal.invariant-loop-found
invariant-loop-found l = (T : Tables) (e : ℕ) → total (spec.wake_cost T e) l.wakes.items ≡
    total (spec.wake_cost T e) l.initial.wakes.items + spec.copies l.events l.code l.instances e * total (spec.loop_cost T e) (map seen (take l.found-index l.loops))
