use Rattle.std.proofs.Common.{◌≡◌, true, take}
use Rattle.std.specs.List.{list_all}
use Rattle.ceu_tree.specs.Costs.{calm_node, calm_arm}
use Rattle.ceu_tree.proofs.Sizes.{stmt_size, block_size, node_list_size, arm_size, arm_list_size}
use Rattle.ceu_paths.proofs.calm.+calm.Given as goal

abbrev pub decreases-is_calm : goal.decreases-is_calm
decreases-is_calm l = stmt_size l.stmt.now

abbrev pub decreases-block_calm : goal.decreases-block_calm
decreases-block_calm l = block_size l.block.now

abbrev pub decreases-nodes_calm : goal.decreases-nodes_calm
decreases-nodes_calm l = node_list_size l.nodes.now

abbrev pub decreases-arm_calm : goal.decreases-arm_calm
decreases-arm_calm l = arm_size l.arm.now

abbrev pub decreases-arms_calm : goal.decreases-arms_calm
decreases-arms_calm l = arm_list_size l.arms.now

abbrev pub invariant-nodes_calm-loop-node : goal.invariant-nodes_calm-loop-node
invariant-nodes_calm-loop-node l = list_all calm_node (take l.node-index l.nodes) ≡ true

abbrev pub invariant-arms_calm-loop-arm : goal.invariant-arms_calm-loop-arm
invariant-arms_calm-loop-arm l = list_all calm_arm (take l.arm-index l.arms) ≡ true
