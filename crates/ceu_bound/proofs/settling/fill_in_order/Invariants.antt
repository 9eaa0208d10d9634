use Rattle.std.proofs.Common.{◌≡◌, length}
use Rattle.ceu_tree.specs.Costs.{emissions}
use Rattle.ceu_bound.specs.Parts.{costs, TablesAtMost}
use Rattle.ceu_bound.proofs.settling.fill_in_order.Given as goal

abbrev pub invariant-loop-event : goal.invariant-loop-event
invariant-loop-event l = record {
  same : l.tables ≡ record l.initial.tables { events = l.tables.events };
  len : length l.tables.events.items ≡ length l.kernel.events;
  reached : TablesAtMost l.initial.tables.part (costs l.tables.events.items) (emissions l.kernel l.event-index);
}
