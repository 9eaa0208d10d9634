use Rattle.ceu_base.specs.declared.kinds.Pos.{Pos}
use Rattle.ceu_listing.specs.Shown.{place_line}
use Rattle.ceu_listing.proofs.ShowLaws.{copied_printed, items_printed}
use Rattle.ceu_listing.proofs.image_parts.print_places.Goals as goal

pub loop-k-preserved : goal.loop-k-preserved
loop-k-preserved g c =
    let none : Pos = record { line = 0; col = 0 } in
    copied_printed place_line c.args.places.now c.loop-k.k none c.args.going c.loop-k.goes c.place_line-goes.result (g.O.Sink.held c.args.out.now) (g.O.Sink.held c.loop-k.out) (g.O.Sink.held c.place_line-goes.new.out) (g.O.Sink.faults c.args.out.now) (g.O.Sink.faults c.loop-k.out) (g.O.Sink.faults c.place_line-goes.new.out)
    c.loop-k.invariant c.loop-k-test.true c.place_line-goes.ensures

pub returns : goal.returns
returns g c = items_printed place_line c.args.places.now c.loop-k.k c.args.going c.loop-k.goes (g.O.Sink.held c.args.out.now) (g.O.Sink.held c.loop-k.out) (g.O.Sink.faults c.args.out.now) (g.O.Sink.faults c.loop-k.out) c.loop-k.invariant c.loop-k-test.false
