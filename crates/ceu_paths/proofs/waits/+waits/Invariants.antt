use Rattle.std.proofs.Common.{◌≡◌, false, take}
use Rattle.std.specs.List.{list_any}
use Rattle.ceu_tree.specs.Costs.{node_waits, waiting_arm, waiting_block}
use Rattle.ceu_tree.proofs.Sizes.{stmt_size, block_size, node_list_size, arm_size, arm_list_size, block_list_size}
use Rattle.ceu_paths.proofs.waits.+waits.Given as goal

abbrev pub decreases-stands_waiting : goal.decreases-stands_waiting
decreases-stands_waiting l = stmt_size l.stmt.now

abbrev pub decreases-block_waits : goal.decreases-block_waits
decreases-block_waits l = block_size l.block.now

abbrev pub decreases-nodes_wait : goal.decreases-nodes_wait
decreases-nodes_wait l = node_list_size l.nodes.now

abbrev pub decreases-arm_waits : goal.decreases-arm_waits
decreases-arm_waits l = arm_size l.arm.now

abbrev pub decreases-arms_wait : goal.decreases-arms_wait
decreases-arms_wait l = arm_list_size l.arms.now

abbrev pub decreases-blocks_wait : goal.decreases-blocks_wait
decreases-blocks_wait l = block_list_size l.blocks.now

abbrev pub invariant-nodes_wait-loop-node : goal.invariant-nodes_wait-loop-node
invariant-nodes_wait-loop-node l = list_any node_waits (take l.node-index l.nodes) ≡ false

abbrev pub invariant-arms_wait-loop-arm : goal.invariant-arms_wait-loop-arm
invariant-arms_wait-loop-arm l = list_any waiting_arm (take l.arm-index l.arms) ≡ false

abbrev pub invariant-blocks_wait-loop-block : goal.invariant-blocks_wait-loop-block
invariant-blocks_wait-loop-block l = list_any waiting_block (take l.block-index l.blocks) ≡ false
