use Rattle.std.proofs.Common.{◌<◌, length, get_or, arith}
use Rattle.ceu_bound.specs.declared.graph.Arrow.{Arrow}
use Rattle.ceu_bound.specs.Graph.{stays}
use Rattle.ceu_bound.proofs.GraphLaws.{before_path, at_itself}
use Rattle.ceu_bound.proofs.graph.follows.Goals as goal

pub loop-step-init : goal.loop-step-init
loop-step-init c = stays c.args.target

pub loop-step-preserved : goal.loop-step-preserved
loop-step-preserved c =
    let none : Arrow = record { source = 0; target = 0 } in
    let step = get_or c.args.way.now c.loop-step.step-index 0 in
    let below : step < length c.args.arrows.now = omega (arith, c.if-step-arrows.false) in
    before_path c.args.arrows.now step (get_or c.args.arrows.now step none) c.loop-step.at c.args.target below (at_itself c.args.arrows.now step none below) c.if-arrow-at.false c.loop-step.invariant
