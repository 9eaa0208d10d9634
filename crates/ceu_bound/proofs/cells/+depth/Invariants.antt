use Rattle.std.proofs.Common.{◌≡◌, take}
use Rattle.ceu_tree.specs.Cut.{cut}
use Rattle.ceu_tree.specs.Depth as spec
use Rattle.ceu_tree.specs.Greatest.{greatest}
use Rattle.ceu_tree.proofs.Sizes.{stmt_size, block_size, node_list_size, arm_list_size, arm_size, block_list_size}
use Rattle.ceu_bound.proofs.cells.+depth.Given as goal

abbrev pub decreases-stmt_depth : goal.decreases-stmt_depth
decreases-stmt_depth l = stmt_size l.stmt.now

abbrev pub decreases-block_depth : goal.decreases-block_depth
decreases-block_depth l = block_size l.block.now

abbrev pub decreases-nodes_depth : goal.decreases-nodes_depth
decreases-nodes_depth l = node_list_size l.nodes.now

abbrev pub decreases-arms_depth : goal.decreases-arms_depth
decreases-arms_depth l = arm_list_size l.arms.now

abbrev pub decreases-blocks_depth : goal.decreases-blocks_depth
decreases-blocks_depth l = block_list_size l.blocks.now

abbrev pub decreases-arm_depth : goal.decreases-arm_depth
decreases-arm_depth l = arm_size l.arm.now

abbrev pub invariant-arms_depth-loop-arm : goal.invariant-arms_depth-loop-arm
invariant-arms_depth-loop-arm l = l.most ≡ cut (greatest spec.arm_depth (take l.arm-index l.arms))

abbrev pub invariant-blocks_depth-loop-block : goal.invariant-blocks_depth-loop-block
invariant-blocks_depth-loop-block l = l.most ≡ cut (greatest spec.block_depth (take l.block-index l.blocks))

abbrev pub invariant-nodes_depth-loop-node : goal.invariant-nodes_depth-loop-node
invariant-nodes_depth-loop-node l = l.most ≡ cut (greatest (λ n. spec.stmt_depth n.stmt) (take l.node-index l.nodes))
