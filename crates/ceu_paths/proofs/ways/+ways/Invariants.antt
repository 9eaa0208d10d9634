use Rattle.std.proofs.Common.{◌≡◌, ◌++◌, take, drop}
use Rattle.ceu_tree.specs.Paths as spec
use Rattle.ceu_tree.proofs.Sizes.{stmt_size, block_size, node_list_size, arm_size, arm_list_size, block_list_size}
use Rattle.ceu_paths.specs.Ways.{ways}
use Rattle.ceu_paths.proofs.ways.+ways.Given as goal

abbrev pub decreases-stmt_exits : goal.decreases-stmt_exits
decreases-stmt_exits l = stmt_size l.stmt.now

abbrev pub decreases-block_exits : goal.decreases-block_exits
decreases-block_exits l = block_size l.block.now

abbrev pub decreases-nodes_exits : goal.decreases-nodes_exits
decreases-nodes_exits l = node_list_size l.nodes.now

abbrev pub decreases-arm_exits : goal.decreases-arm_exits
decreases-arm_exits l = arm_size l.arm.now

abbrev pub decreases-arms_exits : goal.decreases-arms_exits
decreases-arms_exits l = arm_list_size l.arms.now

abbrev pub decreases-branches_exits : goal.decreases-branches_exits
decreases-branches_exits l = block_list_size l.branches.now

abbrev pub invariant-nodes_exits-loop-node : goal.invariant-nodes_exits-loop-node
invariant-nodes_exits-loop-node l = spec.quick_list l.passing l.nodes ≡ ways l.exits.items ++ spec.quick_list l.passing (drop l.node-index l.nodes)

abbrev pub invariant-arms_exits-loop-arm : goal.invariant-arms_exits-loop-arm
invariant-arms_exits-loop-arm l = ways l.exits.items ≡ spec.gathered (spec.quick_arm l.passing) (take l.arm-index l.arms)

abbrev pub invariant-branches_exits-loop-branch : goal.invariant-branches_exits-loop-branch
invariant-branches_exits-loop-branch l = (ways l.exits.items ≡ spec.gathered (spec.quick_block l.passing) (take l.branch-index l.branches)) × (l.all_end ≡ spec.all_blocks_end l.passing (take l.branch-index l.branches))
