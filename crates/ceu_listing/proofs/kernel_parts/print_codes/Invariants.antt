use Rattle.std.proofs.Common.{drop}
use Rattle.ceu_listing.specs.Lines.{text}
use Rattle.ceu_listing.specs.Rows as rows
use Rattle.ceu_listing.specs.Rows.{AreNumbered}
use Rattle.ceu_io.proofs.Written.{Printed}
use Rattle.ceu_listing.proofs.kernel_parts.print_codes.Given as goal

abbrev pub invariant-loop-k : goal.invariant-loop-k
invariant-loop-k g l = record {
  printed : Printed (text (g.P.Places.planned l.places) l.gates (rows.codes_rows 0 l.codes)) (text (g.P.Places.planned l.places) l.gates (rows.codes_rows l.k (drop l.k l.codes))) l.going l.goes (g.O.Sink.held l.fn.out) (g.O.Sink.held l.out) (g.O.Sink.faults l.fn.out) (g.O.Sink.faults l.out);
  numbered : AreNumbered (g.P.Places.planned l.places).slot_count (g.P.Places.planned l.places).code_count (rows.codes_rows l.k (drop l.k l.codes));
}
