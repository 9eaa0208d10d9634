use Rattle.ceu_code.specs.Reading.{Items, Reads}
use Rattle.ceu_code.proofs.row.read_items.Given as goal

abbrev pub invariant-loop : goal.invariant-loop
invariant-loop g l = Reads (Items g.T.Parse.valid g.T.Parse.spelled l.counter) l.bytes l.at l.items l.next
