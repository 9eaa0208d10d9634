use Rattle.std.proofs.Common.{drop}
use Rattle.ceu_io.proofs.Written.{Printed}
use Rattle.ceu_listing.specs.Shown.{lines_from, place_line}
use Rattle.ceu_listing.proofs.image_parts.print_places.Given as goal

abbrev pub invariant-loop-k : goal.invariant-loop-k
invariant-loop-k g l = Printed (lines_from place_line 0 l.places) (lines_from place_line l.k (drop l.k l.places)) l.going l.goes (g.O.Sink.held l.fn.out) (g.O.Sink.held l.out) (g.O.Sink.faults l.fn.out) (g.O.Sink.faults l.out)
