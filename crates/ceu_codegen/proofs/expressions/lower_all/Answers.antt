use Rattle.std.proofs.Common.{refl, subst, ◌+◌, ◌<◌, List, length, drop, arith}
use Rattle.ceu_tree.specs.declared.kernel.KExp.{KExp}
use Rattle.ceu_tree.specs.Greatest.{total}
use Rattle.ceu_tree.specs.Weight.{exp_count}
use Rattle.ceu_shape.specs.Plans.{Plan}
use Rattle.ceu_shape.specs.Shape.{exp_part, exp_parts}
use Rattle.ceu_codegen.specs.Conditions.{AllName, planned}
use Rattle.ceu_codegen.proofs.Small.{part_small}
use Rattle.ceu_codegen.proofs.Walks.{item, total_item, walked, arrived, room_after}
use Rattle.ceu_codegen.proofs.expressions.lower_all.Goals as goal

pub loop-exp-preserved : goal.loop-exp-preserved
loop-exp-preserved g c =
    let p = g.P.Places.planned c.args.places.now in
    let plan : Plan = planned p c.args.gates.now in
    let K = c.args.kernel.now in
    let xs = c.args.exps.now in
    let i = c.loop-exp.exp-index in
    let x = c.exp-item.result in
    let at = c.loop-exp.at in
    let mid = c.loop-exp.sheet in
    let next = c.lower_part.new.sheet in
    let below : i < length xs = omega arith in
    let few = total_item exp_count xs i x c.exp-item.is below in
    record {
      whole = walked (exp_parts plan K at) (exp_parts plan K (at + 2)) (exp_part plan K at x) (exp_parts plan K c.args.begin xs) xs i x c.args.sheet.now mid next c.exp-item.is below refl c.loop-exp.invariant.whole c.in_ok-lower_part.ensures;
      names = (subst (λ (ys : List KExp). AllName p.slot_count ys) (item xs i x c.exp-item.is below) c.loop-exp.invariant.names).1;
      room = room_after mid next (exp_part plan K at x) (exp_count x) (total exp_count (drop (i + 1) xs)) (total exp_count (drop i xs)) (omega (arith, few)) (part_small plan K at x) c.in_ok-lower_part.ensures c.loop-exp.invariant.room;
      at = omega (arith, c.loop-exp.invariant.at);
    }

pub returns : goal.returns
returns g c =
    let p = g.P.Places.planned c.args.places.now in
    let plan : Plan = planned p c.args.gates.now in
    let K = c.args.kernel.now in
    arrived (exp_parts plan K c.loop-exp.at) (exp_parts plan K c.args.begin c.args.exps.now) c.args.exps.now c.loop-exp.exp-index c.args.sheet.now c.loop-exp.sheet (omega arith) refl c.loop-exp.invariant.whole
