use Rattle.std.proofs.Common.{◌≡◌, take}
use Rattle.ceu_tree.specs.Cut.{cut}
use Rattle.ceu_tree.specs.Greatest.{total}
use Rattle.ceu_tree.specs.Needs as spec
use Rattle.ceu_tree.proofs.Sizes.{stmt_size, block_size, node_list_size, arm_size, arm_list_size, block_list_size}
use Rattle.ceu_slots.proofs.needs.+need.Given as goal

abbrev pub decreases-stmt_need : goal.decreases-stmt_need
decreases-stmt_need l = stmt_size l.stmt.now

abbrev pub decreases-block_need : goal.decreases-block_need
decreases-block_need l = block_size l.block.now

abbrev pub decreases-nodes_need : goal.decreases-nodes_need
decreases-nodes_need l = node_list_size l.nodes.now

abbrev pub decreases-arms_need : goal.decreases-arms_need
decreases-arms_need l = arm_list_size l.arms.now

abbrev pub decreases-arm_need : goal.decreases-arm_need
decreases-arm_need l = arm_size l.arm.now

abbrev pub decreases-branches_need : goal.decreases-branches_need
decreases-branches_need l = block_list_size l.branches.now

abbrev pub invariant-nodes_need-loop-node : goal.invariant-nodes_need-loop-node
invariant-nodes_need-loop-node l = l.need ≡ cut (spec.joined l.plain (spec.node_need l.plain l.frames) (take l.node-index l.nodes))

abbrev pub invariant-arms_need-loop-arm : goal.invariant-arms_need-loop-arm
invariant-arms_need-loop-arm l = l.need ≡ cut (spec.joined l.plain (spec.arm_need l.plain l.frames) (take l.arm-index l.arms))

abbrev pub invariant-branches_need-loop-branch : goal.invariant-branches_need-loop-branch
invariant-branches_need-loop-branch l = l.need ≡ cut (total (spec.branch_need l.plain l.frames l.each) (take l.branch-index l.branches))
