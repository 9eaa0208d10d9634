use Rattle.ceu_listing.specs.Shown.{port_line}
use Rattle.ceu_listing.proofs.ShowLaws.{item_printed, items_printed}
use Rattle.ceu_listing.proofs.image_parts.print_ports.Goals as goal

pub loop-k-preserved : goal.loop-k-preserved
loop-k-preserved g c =
    item_printed (port_line c.args.word.now) c.args.ports.now c.loop-k.k c.index-ports-k.result c.args.going c.loop-k.goes c.port_line-goes.result (g.O.Sink.held c.args.out.now) (g.O.Sink.held c.loop-k.out) (g.O.Sink.held c.port_line-goes.new.out) (g.O.Sink.faults c.args.out.now) (g.O.Sink.faults c.loop-k.out) (g.O.Sink.faults c.port_line-goes.new.out)
    c.loop-k.invariant c.index-ports-k.is c.loop-k-test.true c.port_line-goes.ensures

pub returns : goal.returns
returns g c = items_printed (port_line c.args.word.now) c.args.ports.now c.loop-k.k c.args.going c.loop-k.goes (g.O.Sink.held c.args.out.now) (g.O.Sink.held c.loop-k.out) (g.O.Sink.faults c.args.out.now) (g.O.Sink.faults c.loop-k.out) c.loop-k.invariant c.loop-k-test.false
