use Rattle.std.proofs.Common.{arith}
use Rattle.ceu_shape.specs.Plans.{Plan}
use Rattle.ceu_shape.specs.Words.{plain}
use Rattle.ceu_shape.specs.Shape.{zero_given}
use Rattle.ceu_codegen.specs.Conditions.{planned}
use Rattle.ceu_codegen.proofs.Levels.{block_own_fits}
use Rattle.ceu_codegen.proofs.Ended.{body_added}
use Rattle.ceu_codegen.proofs.Walks.{on_ok}
use Rattle.ceu_codegen.proofs.bodies.lower_body.Goals as goal

pub end_label-requires : goal.end_label-requires
end_label-requires g c =
    let own = block_own_fits (g.P.Places.planned c.args.places.now) c.args.gates.now c.args.kernel.now c.args.body.now c.requires.fits in
    omega (arith, own.node, c.requires.ready.few_nodes)

pub returns : goal.returns
returns g c =
    let plan : Plan = planned (g.P.Places.planned c.args.places.now) c.args.gates.now in
    let K = c.args.kernel.now in
    on_ok c.add-2.result (λ e. body_added plan K c.args.body.now (zero_given plan K c.args.ty) (plain c.args.end) c.end_label.result c.args.sheet.now c.lower_block.new.sheet c.add_zero.new.sheet c.add.new.self c.add-2.new.self
    c.in_ok-lower_block.ensures c.in_ok-add_zero.ensures c.end_label.ensures c.in_ok-add.ensures.ok e) c.add-2.ensures.ok
