use Rattle.std.proofs.Common.{◌≡◌, ◌≤◌, length, take, drop}
use Rattle.ceu_paths.specs.Cap.{cap}
use Rattle.ceu_tree.specs.Greatest.{greatest, total}
use Rattle.ceu_tree.proofs.Sizes.{stmt_size, block_size, node_list_size, arm_size, arm_list_size, block_list_size}
use Rattle.ceu_bound.specs.Measured.{enter_list, stay_list, enter_arm, stay_arm, enter_branch, stay_block}
use Rattle.ceu_bound.proofs.measures.+costing.Given as goal

abbrev pub decreases-stmt_measure : goal.decreases-stmt_measure
decreases-stmt_measure l = stmt_size l.stmt.now

abbrev pub decreases-block_measure : goal.decreases-block_measure
decreases-block_measure l = block_size l.block.now

abbrev pub decreases-nodes_measure : goal.decreases-nodes_measure
decreases-nodes_measure l = node_list_size l.nodes.now

abbrev pub decreases-arm_measure : goal.decreases-arm_measure
decreases-arm_measure l = arm_size l.arm.now

abbrev pub decreases-arms_measure : goal.decreases-arms_measure
decreases-arms_measure l = arm_list_size l.arms.now

abbrev pub decreases-branches_measure : goal.decreases-branches_measure
decreases-branches_measure l = block_list_size l.branches.now

abbrev pub decreases-par_measure : goal.decreases-par_measure
decreases-par_measure l = block_list_size l.branches.now

abbrev pub invariant-nodes_measure-loop-left : goal.invariant-nodes_measure-loop-left
invariant-nodes_measure-loop-left l = (l.cost.enter ≡ cap (enter_list l.tables (drop l.left l.nodes))) × (l.cost.stay ≡ cap (stay_list l.tables (drop l.left l.nodes))) × (l.left ≤ length l.nodes)

abbrev pub decreases-nodes_measure-loop-left : goal.decreases-nodes_measure-loop-left
decreases-nodes_measure-loop-left l = l.left

abbrev pub invariant-arms_measure-loop-arm : goal.invariant-arms_measure-loop-arm
invariant-arms_measure-loop-arm l = (l.most.enter ≡ cap (greatest (enter_arm l.tables) (take l.arm-index l.arms))) × (l.most.stay ≡ cap (greatest (stay_arm l.tables) (take l.arm-index l.arms)))

abbrev pub invariant-branches_measure-loop-branch : goal.invariant-branches_measure-loop-branch
invariant-branches_measure-loop-branch l = (l.sum.enter ≡ cap (total (enter_branch l.tables) (take l.branch-index l.branches))) × (l.sum.stay ≡ cap (total (stay_block l.tables) (take l.branch-index l.branches)))
