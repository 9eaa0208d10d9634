use Rattle.std.proofs.Common.{◌≡◌}
use Rattle.ceu_tree.specs.Costs.{emissions}
use Rattle.ceu_bound.specs.Parts.{costs, SameTables}
use Rattle.ceu_bound.proofs.settling.settle_in_rounds.Given as goal

abbrev pub invariant-loop-done : goal.invariant-loop-done
invariant-loop-done l = (l.tables ≡ record l.initial.tables { events = l.tables.events }) ×
    SameTables l.initial.tables.part (costs l.tables.events.items) (emissions l.kernel l.done)
