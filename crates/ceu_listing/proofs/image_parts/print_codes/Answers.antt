use Rattle.ceu_listing.specs.Shown.{code_line}
use Rattle.ceu_listing.proofs.ShowLaws.{item_printed, items_printed}
use Rattle.ceu_listing.proofs.image_parts.print_codes.Goals as goal

pub loop-k-preserved : goal.loop-k-preserved
loop-k-preserved g c =
    item_printed code_line c.args.rows.now c.loop-k.k c.index-rows-k.result c.args.going c.loop-k.goes c.code_line-goes.result (g.O.Sink.held c.args.out.now) (g.O.Sink.held c.loop-k.out) (g.O.Sink.held c.code_line-goes.new.out) (g.O.Sink.faults c.args.out.now) (g.O.Sink.faults c.loop-k.out) (g.O.Sink.faults c.code_line-goes.new.out)
    c.loop-k.invariant c.index-rows-k.is c.loop-k-test.true c.code_line-goes.ensures

pub returns : goal.returns
returns g c = items_printed code_line c.args.rows.now c.loop-k.k c.args.going c.loop-k.goes (g.O.Sink.held c.args.out.now) (g.O.Sink.held c.loop-k.out) (g.O.Sink.faults c.args.out.now) (g.O.Sink.faults c.loop-k.out) c.loop-k.invariant c.loop-k-test.false
