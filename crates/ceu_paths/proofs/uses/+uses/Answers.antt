use Rattle.std.proofs.Common.{◌<◌, length, take, ap, sym, append_assoc, add-one, arith}
use Rattle.ceu_paths.specs.Uses.{node_uses, arm_uses, block_uses}
use Rattle.ceu_paths.specs.Joined.{joined}
use Rattle.ceu_paths.proofs.Lists.{joined_more}
use Rattle.ceu_paths.proofs.uses.+uses.Goals as goal

pub uses_in_nodes-loop-node-preserved : goal.uses_in_nodes-loop-node-preserved
uses_in_nodes-loop-node-preserved t c =
    let below : c.loop-node.node-index < length c.args.nodes.now = omega arith in
    let more = joined_more node_uses c.args.nodes.now c.loop-node.node-index c.node-item.result below in
    let here = ap node_uses (sym c.node-item.is) in
    let assoc = append_assoc c.args.found.now.items (joined node_uses (take c.loop-node.node-index c.args.nodes.now)) (node_uses c.node-item.result) in
    rw add-one (cc (more, here, assoc, c.loop-node.invariant, c.in_ok-uses_in_stmt.ensures))

pub uses_in_arms-loop-arm-preserved : goal.uses_in_arms-loop-arm-preserved
uses_in_arms-loop-arm-preserved t c =
    let below : c.loop-arm.arm-index < length c.args.arms.now = omega arith in
    let more = joined_more arm_uses c.args.arms.now c.loop-arm.arm-index c.arm-item.result below in
    let here = ap arm_uses (sym c.arm-item.is) in
    let assoc = append_assoc c.args.found.now.items (joined arm_uses (take c.loop-arm.arm-index c.args.arms.now)) (arm_uses c.arm-item.result) in
    rw add-one (cc (more, here, assoc, c.loop-arm.invariant, c.in_ok-uses_in_arm.ensures))

pub uses_in_blocks-loop-block-preserved : goal.uses_in_blocks-loop-block-preserved
uses_in_blocks-loop-block-preserved t c =
    let below : c.loop-block.block-index < length c.args.blocks.now = omega arith in
    let more = joined_more block_uses c.args.blocks.now c.loop-block.block-index c.block-item.result below in
    let here = ap block_uses (sym c.block-item.is) in
    let assoc = append_assoc c.args.found.now.items (joined block_uses (take c.loop-block.block-index c.args.blocks.now)) (block_uses c.block-item.result) in
    rw add-one (cc (more, here, assoc, c.loop-block.invariant, c.in_ok-uses_in.ensures))
