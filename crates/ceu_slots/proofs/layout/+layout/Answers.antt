use Rattle.std.proofs.Common.{◌+◌, ◌<◌, length, drop, ap, arith}
use Rattle.ceu_tree.specs.Greatest.{total}
use Rattle.ceu_tree.specs.Needs as need
use Rattle.ceu_slots.proofs.Walks.{next_item, fits_next, node_smaller, arm_smaller, block_smaller}
use Rattle.ceu_slots.proofs.layout.+layout.Goals as goal

pub place_nodes-place_parts-requires : goal.place_nodes-place_parts-requires
place_nodes-place_parts-requires t c =
    let f = need.node_need c.args.plain c.args.frames.now in
    let below : c.loop-node.node-index < length c.args.nodes.now = omega arith in
    let small = node_smaller c.args.nodes.now c.loop-node.node-index c.node-item.result c.node-item.is below in
    let rest = need.joined c.args.plain f (drop (c.loop-node.node-index + 1) c.args.nodes.now) in
    let next = ap (need.joined c.args.plain f) (next_item c.args.nodes.now c.loop-node.node-index c.node-item.result c.node-item.is below) in
    let all = rw next at c.loop-node.invariant.size in
    let fits = fits_next c.args.plain c.args.at c.loop-node.size (f c.node-item.result) rest (need.joined c.args.plain f c.args.nodes.now) all c.requires in
    (omega (arith, small), rw c.behind-start.ensures fits.1)

pub place_arms-place_arm-requires : goal.place_arms-place_arm-requires
place_arms-place_arm-requires t c =
    let f = need.arm_need c.args.plain c.args.frames.now in
    let below : c.loop-arm.arm-index < length c.args.arms.now = omega arith in
    let small = arm_smaller c.args.arms.now c.loop-arm.arm-index c.arm-item.result c.arm-item.is below in
    let rest = need.joined c.args.plain f (drop (c.loop-arm.arm-index + 1) c.args.arms.now) in
    let next = ap (need.joined c.args.plain f) (next_item c.args.arms.now c.loop-arm.arm-index c.arm-item.result c.arm-item.is below) in
    let all = rw next at c.loop-arm.invariant.size in
    let fits = fits_next c.args.plain c.args.at c.loop-arm.size (f c.arm-item.result) rest (need.joined c.args.plain f c.args.arms.now) all c.requires in
    (omega (arith, small), rw c.behind-start.ensures fits.1)

pub place_branches-place_block-requires : goal.place_branches-place_block-requires
place_branches-place_block-requires t c =
    let f = need.block_need c.args.plain c.args.frames.now in
    let below : c.loop-branch.branch-index < length c.args.branches.now = omega arith in
    let small = block_smaller c.args.branches.now c.loop-branch.branch-index c.branch-item.result c.branch-item.is below in
    let next = ap (total f) (next_item c.args.branches.now c.loop-branch.branch-index c.branch-item.result c.branch-item.is below) in
    (omega (arith, small), omega (arith, next, c.loop-branch.invariant.size, c.requires))
