use Rattle.std.proofs.Common.{◌≡◌, length}
use Rattle.ceu_io.proofs.Offers.{Taken}
use Rattle.ceu_top.proofs.lines.write_lines.Given as goal

abbrev pub invariant-loop-rest : goal.invariant-loop-rest
invariant-loop-rest g l = record {
  taken : Taken l.text l.rest (g.O.Sink.held l.fn.out) (g.O.Sink.held l.out);
  quiet : g.O.Sink.faults l.out ≡ g.O.Sink.faults l.fn.out;
}

abbrev pub decreases-loop-rest : goal.decreases-loop-rest
decreases-loop-rest g l = length l.rest
