use Rattle.ceu_listing.specs.Shown.{pool_line}
use Rattle.ceu_listing.proofs.ShowLaws.{copied_printed, items_printed}
use Rattle.ceu_listing.proofs.image_parts.print_pools.Goals as goal

pub loop-k-preserved : goal.loop-k-preserved
loop-k-preserved g c =
    copied_printed pool_line c.args.pools.now c.loop-k.k 0 c.args.going c.loop-k.goes c.pool_line-goes.result (g.O.Sink.held c.args.out.now) (g.O.Sink.held c.loop-k.out) (g.O.Sink.held c.pool_line-goes.new.out) (g.O.Sink.faults c.args.out.now) (g.O.Sink.faults c.loop-k.out) (g.O.Sink.faults c.pool_line-goes.new.out)
    c.loop-k.invariant c.loop-k-test.true c.pool_line-goes.ensures

pub returns : goal.returns
returns g c = items_printed pool_line c.args.pools.now c.loop-k.k c.args.going c.loop-k.goes (g.O.Sink.held c.args.out.now) (g.O.Sink.held c.loop-k.out) (g.O.Sink.faults c.args.out.now) (g.O.Sink.faults c.loop-k.out) c.loop-k.invariant c.loop-k-test.false
