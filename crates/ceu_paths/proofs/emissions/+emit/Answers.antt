use Rattle.std.proofs.Common.{◌<◌, length, take, ap, sym, append_assoc, add-one, arith}
use Rattle.ceu_paths.specs.Emits.{node_emits, arm_emits, block_emits}
use Rattle.ceu_paths.specs.Joined.{joined}
use Rattle.ceu_paths.proofs.Lists.{joined_more}
use Rattle.ceu_paths.proofs.emissions.+emit.Goals as goal

pub emit_in_nodes-loop-node-preserved : goal.emit_in_nodes-loop-node-preserved
emit_in_nodes-loop-node-preserved t c =
    let below : c.loop-node.node-index < length c.args.nodes.now = omega arith in
    let more = joined_more node_emits c.args.nodes.now c.loop-node.node-index c.node-item.result below in
    let here = ap node_emits (sym c.node-item.is) in
    let assoc = append_assoc c.args.found.now.items (joined node_emits (take c.loop-node.node-index c.args.nodes.now)) (node_emits c.node-item.result) in
    rw add-one (cc (more, here, assoc, c.loop-node.invariant, c.in_ok-emit_in_stmt.ensures))

pub emit_in_arms-loop-arm-preserved : goal.emit_in_arms-loop-arm-preserved
emit_in_arms-loop-arm-preserved t c =
    let below : c.loop-arm.arm-index < length c.args.arms.now = omega arith in
    let more = joined_more arm_emits c.args.arms.now c.loop-arm.arm-index c.arm-item.result below in
    let here = ap arm_emits (sym c.arm-item.is) in
    let assoc = append_assoc c.args.found.now.items (joined arm_emits (take c.loop-arm.arm-index c.args.arms.now)) (arm_emits c.arm-item.result) in
    rw add-one (cc (more, here, assoc, c.loop-arm.invariant, c.in_ok-emit_in_arm.ensures))

pub emit_in_blocks-loop-block-preserved : goal.emit_in_blocks-loop-block-preserved
emit_in_blocks-loop-block-preserved t c =
    let below : c.loop-block.block-index < length c.args.blocks.now = omega arith in
    let more = joined_more block_emits c.args.blocks.now c.loop-block.block-index c.block-item.result below in
    let here = ap block_emits (sym c.block-item.is) in
    let assoc = append_assoc c.args.found.now.items (joined block_emits (take c.loop-block.block-index c.args.blocks.now)) (block_emits c.block-item.result) in
    rw add-one (cc (more, here, assoc, c.loop-block.invariant, c.in_ok-emit_in.ensures))
