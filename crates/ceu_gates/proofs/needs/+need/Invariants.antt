use Rattle.std.proofs.Common.{◌≡◌, take}
use Rattle.ceu_tree.specs.Cut.{cut}
use Rattle.ceu_tree.specs.Greatest.{greatest, total}
use Rattle.ceu_tree.specs.Needs as spec
use Rattle.ceu_tree.proofs.Sizes.{stmt_size, block_size, node_list_size, arm_size, arm_list_size, block_list_size}
use Rattle.ceu_gates.proofs.needs.+need.Given as goal

abbrev pub decreases-stmt_gates : goal.decreases-stmt_gates
decreases-stmt_gates l = stmt_size l.stmt.now

abbrev pub decreases-block_gates : goal.decreases-block_gates
decreases-block_gates l = block_size l.block.now

abbrev pub decreases-nodes_gates : goal.decreases-nodes_gates
decreases-nodes_gates l = node_list_size l.nodes.now

abbrev pub decreases-arms_gates : goal.decreases-arms_gates
decreases-arms_gates l = arm_list_size l.arms.now

abbrev pub decreases-arm_gates : goal.decreases-arm_gates
decreases-arm_gates l = arm_size l.arm.now

abbrev pub decreases-branches_gates : goal.decreases-branches_gates
decreases-branches_gates l = block_list_size l.branches.now

abbrev pub invariant-nodes_gates-loop-node : goal.invariant-nodes_gates-loop-node
invariant-nodes_gates-loop-node l = l.most ≡ cut (greatest (spec.node_gates l.gates) (take l.node-index l.nodes))

abbrev pub invariant-arms_gates-loop-arm : goal.invariant-arms_gates-loop-arm
invariant-arms_gates-loop-arm l = l.most ≡ cut (greatest (spec.arm_gates l.gates) (take l.arm-index l.arms))

abbrev pub invariant-branches_gates-loop-branch : goal.invariant-branches_gates-loop-branch
invariant-branches_gates-loop-branch l = l.count ≡ cut (total (spec.block_gates l.gates) (take l.branch-index l.branches))
