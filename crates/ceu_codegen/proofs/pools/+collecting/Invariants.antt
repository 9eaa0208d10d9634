use Rattle.std.proofs.Common.{◌≡◌, ◌++◌, drop}
use Rattle.ceu_tree.proofs.Sizes.{stmt_size, block_size, node_list_size, arm_size, arm_list_size, block_list_size}
use Rattle.ceu_codegen.specs.Pools.{node_list_own, arm_list_own, block_list_own}
use Rattle.ceu_codegen.proofs.pools.+collecting.Given as goal

abbrev pub decreases-add_stmt : goal.decreases-add_stmt
decreases-add_stmt l = stmt_size l.stmt.now

abbrev pub decreases-add_block : goal.decreases-add_block
decreases-add_block l = block_size l.block.now

abbrev pub decreases-add_nodes : goal.decreases-add_nodes
decreases-add_nodes l = node_list_size l.nodes.now

abbrev pub decreases-add_arm : goal.decreases-add_arm
decreases-add_arm l = arm_size l.arm.now

abbrev pub decreases-add_arms : goal.decreases-add_arms
decreases-add_arms l = arm_list_size l.arms.now

abbrev pub decreases-add_branches : goal.decreases-add_branches
decreases-add_branches l = block_list_size l.branches.now

abbrev pub invariant-add_nodes-loop-part : goal.invariant-add_nodes-loop-part
invariant-add_nodes-loop-part l = l.initial.pools.items ++ node_list_own l.nodes ≡ l.pools.items ++ node_list_own (drop l.part-index l.nodes)

abbrev pub invariant-add_arms-loop-part : goal.invariant-add_arms-loop-part
invariant-add_arms-loop-part l = l.initial.pools.items ++ arm_list_own l.arms ≡ l.pools.items ++ arm_list_own (drop l.part-index l.arms)

abbrev pub invariant-add_branches-loop-part : goal.invariant-add_branches-loop-part
invariant-add_branches-loop-part l = l.initial.pools.items ++ block_list_own l.branches ≡ l.pools.items ++ block_list_own (drop l.part-index l.branches)
