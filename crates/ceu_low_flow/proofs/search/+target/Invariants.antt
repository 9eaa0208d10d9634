use Rattle.std.proofs.Common.{◌≡◌, drop}
use Rattle.ceu_tree.proofs.Sizes.{stmt_size, block_size, node_list_size, arm_size, arm_list_size, block_list_size}
use Rattle.ceu_low_flow.specs.Lists.{node_list_target, arm_list_target, block_list_target}
use Rattle.ceu_low_flow.proofs.search.+target.Given as goal

abbrev pub decreases-stmt_target : goal.decreases-stmt_target
decreases-stmt_target l = stmt_size l.stmt.now

abbrev pub decreases-block_target : goal.decreases-block_target
decreases-block_target l = block_size l.block.now

abbrev pub decreases-nodes_target : goal.decreases-nodes_target
decreases-nodes_target l = node_list_size l.nodes.now

abbrev pub decreases-arm_target : goal.decreases-arm_target
decreases-arm_target l = arm_size l.arm.now

abbrev pub decreases-arms_target : goal.decreases-arms_target
decreases-arms_target l = arm_list_size l.arms.now

abbrev pub decreases-branches_target : goal.decreases-branches_target
decreases-branches_target l = block_list_size l.branches.now

abbrev pub invariant-nodes_target-loop-part : goal.invariant-nodes_target-loop-part
invariant-nodes_target-loop-part l = node_list_target l.node l.nodes ≡ node_list_target l.node (drop l.part-index l.nodes)

abbrev pub invariant-arms_target-loop-part : goal.invariant-arms_target-loop-part
invariant-arms_target-loop-part l = arm_list_target l.node l.arms ≡ arm_list_target l.node (drop l.part-index l.arms)

abbrev pub invariant-branches_target-loop-part : goal.invariant-branches_target-loop-part
invariant-branches_target-loop-part l = block_list_target l.node l.branches ≡ block_list_target l.node (drop l.part-index l.branches)
