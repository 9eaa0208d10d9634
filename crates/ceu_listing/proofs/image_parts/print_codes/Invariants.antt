use Rattle.std.proofs.Common.{drop}
use Rattle.ceu_io.proofs.Written.{Printed}
use Rattle.ceu_listing.specs.Shown.{lines_from, code_line}
use Rattle.ceu_listing.proofs.image_parts.print_codes.Given as goal

abbrev pub invariant-loop-k : goal.invariant-loop-k
invariant-loop-k g l = Printed (lines_from code_line 0 l.rows) (lines_from code_line l.k (drop l.k l.rows)) l.going l.goes (g.O.Sink.held l.fn.out) (g.O.Sink.held l.out) (g.O.Sink.faults l.fn.out) (g.O.Sink.faults l.out)
