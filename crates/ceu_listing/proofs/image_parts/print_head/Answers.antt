use Rattle.std.proofs.Common.{codes}
use Rattle.ceu_io.proofs.Written.{prints_three}
use Rattle.ceu_listing.specs.Shown.{memory_line, lines_from, port_line}
use Rattle.ceu_listing.proofs.image_parts.print_head.Goals as goal

pub returns : goal.returns
returns g c =
    prints_three (memory_line c.args.image.now) (lines_from (port_line (codes "input ")) 0 c.args.image.now.inputs) (lines_from (port_line (codes "output ")) 0 c.args.image.now.outputs)
    c.args.going c.memory_line-first.result c.print_ports-second.result c.print_ports.result (g.O.Sink.held c.args.out.now) (g.O.Sink.held c.memory_line-first.new.out) (g.O.Sink.held c.print_ports-second.new.out) (g.O.Sink.held c.print_ports.new.out)
    (g.O.Sink.faults c.args.out.now) (g.O.Sink.faults c.memory_line-first.new.out) (g.O.Sink.faults c.print_ports-second.new.out) (g.O.Sink.faults c.print_ports.new.out)
    c.memory_line-first.ensures (rw c.items.ensures at c.print_ports-second.ensures) (rw c.items-2.ensures at c.print_ports.ensures)
