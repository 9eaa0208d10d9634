use Rattle.std.proofs.Common.{◌≡◌, drop}
use Rattle.ceu_forms.specs.Forms.{first_in, other_node, other_in_arm}
use Rattle.ceu_tree.proofs.Sizes.{stmt_size, block_size, node_list_size, arm_size, arm_list_size}
use Rattle.ceu_forms.proofs.forms.+find.Given as goal

abbrev pub decreases-other_stmt : goal.decreases-other_stmt
decreases-other_stmt l = stmt_size l.stmt.now

abbrev pub decreases-other_in_block : goal.decreases-other_in_block
decreases-other_in_block l = block_size l.block.now

abbrev pub decreases-other_in_nodes : goal.decreases-other_in_nodes
decreases-other_in_nodes l = node_list_size l.nodes.now

abbrev pub decreases-other_in_arm : goal.decreases-other_in_arm
decreases-other_in_arm l = arm_size l.arm.now

abbrev pub decreases-other_in_arms : goal.decreases-other_in_arms
decreases-other_in_arms l = arm_list_size l.arms.now

abbrev pub invariant-other_in_nodes-loop-node : goal.invariant-other_in_nodes-loop-node
invariant-other_in_nodes-loop-node l = first_in other_node l.nodes ≡ first_in other_node (drop l.node-index l.nodes)

abbrev pub invariant-other_in_arms-loop-arm : goal.invariant-other_in_arms-loop-arm
invariant-other_in_arms-loop-arm l = first_in other_in_arm l.arms ≡ first_in other_in_arm (drop l.arm-index l.arms)
