use Rattle.std.proofs.Common.{◌≡◌, drop}
use Rattle.ceu_tree.proofs.Sizes.{stmt_size, block_size, node_list_size, arm_size, arm_list_size, block_list_size}
use Rattle.ceu_low_pool.specs.Lists.{node_list_pool, arm_list_pool, block_list_pool}
use Rattle.ceu_low_pool.proofs.search.+pools.Given as goal

abbrev pub decreases-stmt_pool : goal.decreases-stmt_pool
decreases-stmt_pool l = stmt_size l.stmt.now

abbrev pub decreases-block_pool : goal.decreases-block_pool
decreases-block_pool l = block_size l.block.now

abbrev pub decreases-nodes_pool : goal.decreases-nodes_pool
decreases-nodes_pool l = node_list_size l.nodes.now

abbrev pub decreases-arm_pool : goal.decreases-arm_pool
decreases-arm_pool l = arm_size l.arm.now

abbrev pub decreases-arms_pool : goal.decreases-arms_pool
decreases-arms_pool l = arm_list_size l.arms.now

abbrev pub decreases-branches_pool : goal.decreases-branches_pool
decreases-branches_pool l = block_list_size l.branches.now

abbrev pub invariant-nodes_pool-loop-part : goal.invariant-nodes_pool-loop-part
invariant-nodes_pool-loop-part l = node_list_pool l.slot l.nodes ≡ node_list_pool l.slot (drop l.part-index l.nodes)

abbrev pub invariant-arms_pool-loop-part : goal.invariant-arms_pool-loop-part
invariant-arms_pool-loop-part l = arm_list_pool l.slot l.arms ≡ arm_list_pool l.slot (drop l.part-index l.arms)

abbrev pub invariant-branches_pool-loop-part : goal.invariant-branches_pool-loop-part
invariant-branches_pool-loop-part l = block_list_pool l.slot l.branches ≡ block_list_pool l.slot (drop l.part-index l.branches)
