use Rattle.std.proofs.Common.{◌-◌, drop, length}
use Rattle.ceu_io.proofs.Written.{Printed}
use Rattle.ceu_listing.specs.Shown.{instruction_lines}
use Rattle.ceu_listing.proofs.ShowLaws.{WholeFrom}
use Rattle.ceu_listing.proofs.image_parts.print_code.Given as goal

abbrev pub invariant-instructions : goal.invariant-instructions
invariant-instructions g l = record {
  printed : Printed (instruction_lines l.image.code 0 0 l.image.code) (instruction_lines l.image.code l.at 0 (drop l.at l.image.code)) l.going l.goes (g.O.Sink.held l.fn.out) (g.O.Sink.held l.out) (g.O.Sink.faults l.fn.out) (g.O.Sink.faults l.out);
  whole : WholeFrom l.image.code l.at;
}

abbrev pub decreases-instructions : goal.decreases-instructions
decreases-instructions g l = length l.image.code - l.at
