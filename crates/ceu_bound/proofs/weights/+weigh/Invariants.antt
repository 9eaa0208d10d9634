use Rattle.std.proofs.Common.{◌≡◌, take}
use Rattle.ceu_tree.specs.Cut.{cut}
use Rattle.ceu_tree.specs.Weight as spec
use Rattle.ceu_tree.specs.Greatest.{total}
use Rattle.ceu_tree.proofs.Sizes.{stmt_size, block_size, node_list_size, arm_list_size, arm_size, block_list_size}
use Rattle.ceu_bound.proofs.weights.+weigh.Given as goal

abbrev pub decreases-stmt_weight : goal.decreases-stmt_weight
decreases-stmt_weight l = stmt_size l.stmt.now

abbrev pub decreases-block_weight : goal.decreases-block_weight
decreases-block_weight l = block_size l.block.now

abbrev pub decreases-nodes_weight : goal.decreases-nodes_weight
decreases-nodes_weight l = node_list_size l.nodes.now

abbrev pub decreases-arms_weight : goal.decreases-arms_weight
decreases-arms_weight l = arm_list_size l.arms.now

abbrev pub decreases-branches_weight : goal.decreases-branches_weight
decreases-branches_weight l = block_list_size l.branches.now

abbrev pub decreases-arm_weight : goal.decreases-arm_weight
decreases-arm_weight l = arm_size l.arm.now

abbrev pub invariant-nodes_weight-loop-node : goal.invariant-nodes_weight-loop-node
invariant-nodes_weight-loop-node l = l.sum ≡ cut (total spec.node_weight (take l.node-index l.nodes))

abbrev pub invariant-arms_weight-loop-arm : goal.invariant-arms_weight-loop-arm
invariant-arms_weight-loop-arm l = l.sum ≡ cut (total spec.arm_weight (take l.arm-index l.arms))

abbrev pub invariant-branches_weight-loop-branch : goal.invariant-branches_weight-loop-branch
invariant-branches_weight-loop-branch l = l.sum ≡ cut (total spec.branch_weight (take l.branch-index l.branches))
