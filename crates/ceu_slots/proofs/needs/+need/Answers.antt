use Rattle.std.proofs.Common.{◌<◌, length, take, ap, sym, add-one, arith}
use Rattle.std.proofs.lemmas.Grind.{common_steps}
use Rattle.ceu_tree.specs.Needs as spec
use Rattle.ceu_slots.proofs.NeedSums.{joined_more, cut_apart}
use Rattle.ceu_slots.proofs.needs.+need.Goals as goal

pub nodes_need-loop-node-preserved : goal.nodes_need-loop-node-preserved
nodes_need-loop-node-preserved t c =
    let below : c.loop-node.node-index < length c.args.nodes.now = omega arith in
    let more = joined_more c.args.plain (spec.node_need c.args.plain c.args.frames.now) c.args.nodes.now c.loop-node.node-index c.node-item.result below in
    let here = ap (spec.node_need c.args.plain c.args.frames.now) (sym c.node-item.is) in
    let cuts = cut_apart c.args.plain (spec.joined c.args.plain (spec.node_need c.args.plain c.args.frames.now) (take c.loop-node.node-index c.args.nodes.now)) (spec.stmt_need c.args.plain c.args.frames.now c.node-item.result.stmt) in
    rw add-one (grind (arith, common_steps, more, here, cuts, c.loop-node.invariant, c.stmt_need.ensures, c.apart-need.ensures))

pub arms_need-loop-arm-preserved : goal.arms_need-loop-arm-preserved
arms_need-loop-arm-preserved t c =
    let below : c.loop-arm.arm-index < length c.args.arms.now = omega arith in
    let more = joined_more c.args.plain (spec.arm_need c.args.plain c.args.frames.now) c.args.arms.now c.loop-arm.arm-index c.arm-item.result below in
    let here = ap (spec.arm_need c.args.plain c.args.frames.now) (sym c.arm-item.is) in
    let cuts = cut_apart c.args.plain (spec.joined c.args.plain (spec.arm_need c.args.plain c.args.frames.now) (take c.loop-arm.arm-index c.args.arms.now)) (spec.arm_need c.args.plain c.args.frames.now c.arm-item.result) in
    rw add-one (grind (arith, common_steps, more, here, cuts, c.loop-arm.invariant, c.arm_need.ensures, c.apart-need.ensures))
