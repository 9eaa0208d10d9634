use Rattle.std.proofs.Common.{refl, subst, ◌+◌, ◌<◌, List, length, drop, arith}
use Rattle.ceu_tree.specs.declared.kernel.KCode.{KCode}
use Rattle.ceu_tree.specs.Greatest.{total}
use Rattle.ceu_tree.specs.Weight.{code_weight}
use Rattle.ceu_shape.specs.Plans.{Plan}
use Rattle.ceu_shape.specs.Shape.{code_draft, codes_draft}
use Rattle.ceu_codegen.specs.Conditions.{CodesFit, planned}
use Rattle.ceu_codegen.proofs.Ended.{code_small}
use Rattle.ceu_codegen.proofs.Walks.{item, total_item, walked, arrived, room_after}
use Rattle.ceu_codegen.proofs.bodies.lower_codes.Goals as goal

pub loop-code-preserved : goal.loop-code-preserved
loop-code-preserved g c =
    let p = g.P.Places.planned c.args.places.now in
    let plan : Plan = planned p c.args.gates.now in
    let K = c.args.kernel.now in
    let xs = c.args.codes.now in
    let i = c.loop-code.code-index in
    let x = c.code-item.result in
    let mid = c.loop-code.sheet in
    let next = c.lower_body.new.sheet in
    let below : i < length xs = omega arith in
    let few = total_item code_weight xs i x c.code-item.is below in
    record {
      whole = walked (codes_draft plan K) (codes_draft plan K) (code_draft plan K x) (codes_draft plan K xs) xs i x c.args.sheet.now mid next c.code-item.is below refl c.loop-code.invariant.whole c.in_ok-lower_body.ensures;
      fits = (subst (λ (ys : List KCode). CodesFit p c.args.gates.now K ys) (item xs i x c.code-item.is below) c.loop-code.invariant.fits).1;
      room = room_after mid next (code_draft plan K x) (code_weight x) (total code_weight (drop (i + 1) xs)) (total code_weight (drop i xs)) (omega (arith, few)) (code_small plan K x) c.in_ok-lower_body.ensures c.loop-code.invariant.room;
    }

pub returns : goal.returns
returns g c =
    let plan : Plan = planned (g.P.Places.planned c.args.places.now) c.args.gates.now in
    let K = c.args.kernel.now in
    arrived (codes_draft plan K) (codes_draft plan K c.args.codes.now) c.args.codes.now c.loop-code.code-index c.args.sheet.now c.loop-code.sheet (omega arith) refl c.loop-code.invariant.whole
