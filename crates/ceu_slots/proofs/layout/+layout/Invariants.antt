use Rattle.std.proofs.Common.{◌≡◌, ◌+◌, ◌*◌, ◌++◌, drop}
use Rattle.ceu_tree.specs.Greatest.{total}
use Rattle.ceu_tree.specs.Needs as need
use Rattle.ceu_tree.proofs.Sizes.{stmt_size, block_size, node_list_size, arm_size, arm_list_size, block_list_size}
use Rattle.ceu_slots.specs.Layout as spec
use Rattle.ceu_slots.proofs.layout.+layout.Given as goal

abbrev pub decreases-place_parts : goal.decreases-place_parts
decreases-place_parts l = 2 * stmt_size l.stmt.now

abbrev pub decreases-place_if : goal.decreases-place_if
decreases-place_if l = 2 * (arm_list_size l.arms.now + block_size l.last.now) + 1

abbrev pub decreases-place_loop : goal.decreases-place_loop
decreases-place_loop l = 2 * block_size l.body.now + 1

abbrev pub decreases-place_par : goal.decreases-place_par
decreases-place_par l = 2 * block_list_size l.branches.now + 1

abbrev pub decreases-place_block : goal.decreases-place_block
decreases-place_block l = 2 * block_size l.block.now

abbrev pub decreases-place_nodes : goal.decreases-place_nodes
decreases-place_nodes l = 2 * node_list_size l.nodes.now

abbrev pub decreases-place_arm : goal.decreases-place_arm
decreases-place_arm l = 2 * arm_size l.arm.now

abbrev pub decreases-place_arms : goal.decreases-place_arms
decreases-place_arms l = 2 * arm_list_size l.arms.now

abbrev pub decreases-place_branches : goal.decreases-place_branches
decreases-place_branches l = 2 * block_list_size l.branches.now

abbrev pub invariant-place_nodes-loop-node : goal.invariant-place_nodes-loop-node
invariant-place_nodes-loop-node l = record {
  size : need.joined l.plain (need.node_need l.plain l.frames) l.nodes ≡ need.apart l.plain l.size (need.joined l.plain (need.node_need l.plain l.frames) (drop l.node-index l.nodes));
  rows : l.initial.rows.items ++ spec.list_places l.plain l.frames l.at l.nodes ≡ l.rows.items ++ spec.list_places l.plain l.frames (spec.behind l.plain l.at l.size) (drop l.node-index l.nodes);
}

abbrev pub invariant-place_arms-loop-arm : goal.invariant-place_arms-loop-arm
invariant-place_arms-loop-arm l = record {
  size : need.joined l.plain (need.arm_need l.plain l.frames) l.arms ≡ need.apart l.plain l.size (need.joined l.plain (need.arm_need l.plain l.frames) (drop l.arm-index l.arms));
  rows : l.initial.rows.items ++ spec.arm_list_places l.plain l.frames l.at l.arms ≡ l.rows.items ++ spec.arm_list_places l.plain l.frames (spec.behind l.plain l.at l.size) (drop l.arm-index l.arms);
}

abbrev pub invariant-place_branches-loop-branch : goal.invariant-place_branches-loop-branch
invariant-place_branches-loop-branch l = record {
  size : total (need.block_need l.plain l.frames) l.branches ≡ l.size + total (need.block_need l.plain l.frames) (drop l.branch-index l.branches);
  rows : l.initial.rows.items ++ spec.block_list_places l.plain l.frames l.at l.branches ≡ l.rows.items ++ spec.block_list_places l.plain l.frames (l.at + l.size) (drop l.branch-index l.branches);
}
