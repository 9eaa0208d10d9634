use Rattle.std.proofs.Common.{◌<◌, length, take, map, ap, sym, append_assoc, add-one, arith}
use Rattle.ceu_paths.specs.Loops.{node_loops, arm_loops, block_loops}
use Rattle.ceu_paths.specs.Joined.{joined}
use Rattle.ceu_paths.specs.Found.{seen}
use Rattle.ceu_paths.proofs.Lists.{joined_more}
use Rattle.ceu_paths.proofs.loops.+find.Goals as goal

pub find_in_nodes-loop-node-preserved : goal.find_in_nodes-loop-node-preserved
find_in_nodes-loop-node-preserved t c =
    let below : c.loop-node.node-index < length c.args.nodes.now = omega arith in
    let more = joined_more node_loops c.args.nodes.now c.loop-node.node-index c.node-item.result below in
    let here = ap node_loops (sym c.node-item.is) in
    let assoc = append_assoc (map seen c.args.found.now.items) (joined node_loops (take c.loop-node.node-index c.args.nodes.now)) (node_loops c.node-item.result) in
    rw add-one (cc (more, here, assoc, c.loop-node.invariant, c.in_ok-find_in_stmt.ensures))

pub find_in_arms-loop-arm-preserved : goal.find_in_arms-loop-arm-preserved
find_in_arms-loop-arm-preserved t c =
    let below : c.loop-arm.arm-index < length c.args.arms.now = omega arith in
    let more = joined_more arm_loops c.args.arms.now c.loop-arm.arm-index c.arm-item.result below in
    let here = ap arm_loops (sym c.arm-item.is) in
    let assoc = append_assoc (map seen c.args.found.now.items) (joined arm_loops (take c.loop-arm.arm-index c.args.arms.now)) (arm_loops c.arm-item.result) in
    rw add-one (cc (more, here, assoc, c.loop-arm.invariant, c.in_ok-find_in_arm.ensures))

pub find_in_blocks-loop-block-preserved : goal.find_in_blocks-loop-block-preserved
find_in_blocks-loop-block-preserved t c =
    let below : c.loop-block.block-index < length c.args.blocks.now = omega arith in
    let more = joined_more block_loops c.args.blocks.now c.loop-block.block-index c.block-item.result below in
    let here = ap block_loops (sym c.block-item.is) in
    let assoc = append_assoc (map seen c.args.found.now.items) (joined block_loops (take c.loop-block.block-index c.args.blocks.now)) (block_loops c.block-item.result) in
    rw add-one (cc (more, here, assoc, c.loop-block.invariant, c.in_ok-find_loops.ensures))
