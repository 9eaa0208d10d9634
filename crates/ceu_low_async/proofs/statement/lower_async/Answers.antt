use Rattle.ceu_shape.specs.Plans.{Plan, plan_of}
use Rattle.ceu_low_async.proofs.Adding.{on_ok, async_added}
use Rattle.ceu_low_async.proofs.statement.lower_async.Goals as goal

pub returns : goal.returns
returns g c =
    let p = g.P.Places.planned c.args.places.now in
    let plan : Plan = plan_of p.offset p.frame p.total c.args.gates.now.first c.args.gates.now.count in
    on_ok c.add_all.result (λ e. async_added plan c.args.kernel.now c.args.node.now.node c.args.node.now.pos c.args.node.now.stmt c.args.labels.now c.args.sheet.now c.add_all.new.sheet c.requires.kind e)
    (simp (c.items.ensures, c.items-parts.ensures) at c.add_all.ensures)
