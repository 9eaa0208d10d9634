use Rattle.std.proofs.Common.{◌+◌, ◌-◌}
use Rattle.ceu_tree.specs.Numbering.{range_of}
use Rattle.ceu_listing.specs.Lines.{text}
use Rattle.ceu_listing.specs.Rows as rows
use Rattle.ceu_listing.specs.Rows.{AreNumbered}
use Rattle.ceu_io.proofs.Written.{Printed}
use Rattle.ceu_listing.proofs.kernel_parts.print_bytes.Given as goal

abbrev pub invariant-loop-k : goal.invariant-loop-k
invariant-loop-k g l = record {
  printed : Printed (text (g.P.Places.planned l.places) l.gates (rows.byte_rows l.place (range_of l.slot l.count))) (text (g.P.Places.planned l.places) l.gates (rows.byte_rows l.place (range_of (l.slot + l.k) (l.count - l.k)))) l.going l.goes (g.O.Sink.held l.fn.out) (g.O.Sink.held l.out) (g.O.Sink.faults l.fn.out) (g.O.Sink.faults l.out);
  numbered : AreNumbered (g.P.Places.planned l.places).slot_count (g.P.Places.planned l.places).code_count (rows.byte_rows l.place (range_of (l.slot + l.k) (l.count - l.k)));
}
