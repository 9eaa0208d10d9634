use Rattle.std.proofs.Common.{◌≡◌, ◌+◌, ◌*◌, ◌<◌, ◌≤◌, ◌^◌, ◌++◌, max, drop}
use Rattle.ceu_tree.specs.Greatest.{greatest, total}
use Rattle.ceu_tree.specs.Needs as need
use Rattle.ceu_tree.proofs.Sizes.{stmt_size, block_size, node_list_size, arm_size, arm_list_size, block_list_size}
use Rattle.ceu_gates.specs.Ranges as spec
use Rattle.ceu_gates.specs.Ranges.{reach}
use Rattle.ceu_gates.proofs.ranges.+ranges.Given as goal

abbrev pub decreases-place_parts : goal.decreases-place_parts
decreases-place_parts l = 2 * stmt_size l.stmt.now

abbrev pub decreases-place_only : goal.decreases-place_only
decreases-place_only l = 2 * block_size l.body.now + 1

abbrev pub decreases-place_if : goal.decreases-place_if
decreases-place_if l = 2 * (arm_list_size l.arms.now + block_size l.last.now) + 1

abbrev pub decreases-place_block : goal.decreases-place_block
decreases-place_block l = 2 * block_size l.block.now

abbrev pub decreases-place_nodes : goal.decreases-place_nodes
decreases-place_nodes l = 2 * node_list_size l.nodes.now

abbrev pub decreases-place_node : goal.decreases-place_node
decreases-place_node l = 2 * stmt_size l.node.now.stmt + 1

abbrev pub decreases-place_arm : goal.decreases-place_arm
decreases-place_arm l = 2 * arm_size l.arm.now

abbrev pub decreases-place_arms : goal.decreases-place_arms
decreases-place_arms l = 2 * arm_list_size l.arms.now

abbrev pub decreases-place_branches : goal.decreases-place_branches
decreases-place_branches l = 2 * block_list_size l.branches.now

abbrev pub invariant-place_nodes-loop-node : goal.invariant-place_nodes-loop-node
invariant-place_nodes-loop-node l = record {
  rows : l.initial.rows.items ++ spec.list_ranges l.gates l.finalizer l.first l.nodes ≡ l.rows.items ++ spec.list_ranges l.gates l.next l.first (drop l.node-index l.nodes);
  count : greatest (need.node_gates l.gates) l.nodes ≡ max l.most (greatest (need.node_gates l.gates) (drop l.node-index l.nodes));
  fits : reach (spec.list_ranges l.gates l.next l.first (drop l.node-index l.nodes)) ≤ 65535;
  small : l.next < 2 ^ 32;
}

abbrev pub invariant-place_arms-loop-arm : goal.invariant-place_arms-loop-arm
invariant-place_arms-loop-arm l = record {
  rows : l.initial.rows.items ++ spec.arm_list_ranges l.gates l.first l.arms ≡ l.rows.items ++ spec.arm_list_ranges l.gates l.first (drop l.arm-index l.arms);
  count : greatest (need.arm_gates l.gates) l.arms ≡ max l.most (greatest (need.arm_gates l.gates) (drop l.arm-index l.arms));
  fits : reach (spec.arm_list_ranges l.gates l.first (drop l.arm-index l.arms)) ≤ 65535;
}

abbrev pub invariant-place_branches-loop-branch : goal.invariant-place_branches-loop-branch
invariant-place_branches-loop-branch l = record {
  rows : l.initial.rows.items ++ spec.block_list_ranges l.gates l.first l.branches ≡ l.rows.items ++ spec.block_list_ranges l.gates (l.first + l.sum) (drop l.branch-index l.branches);
  count : total (need.block_gates l.gates) l.branches ≡ l.sum + total (need.block_gates l.gates) (drop l.branch-index l.branches);
  fits : reach (spec.block_list_ranges l.gates (l.first + l.sum) (drop l.branch-index l.branches)) ≤ 65535;
}
