use Rattle.std.proofs.Common.{◌≡◌, drop}
use Rattle.ceu_tree.proofs.Sizes.{stmt_size, block_size, node_list_size, arm_size, arm_list_size, block_list_size}
use Rattle.ceu_low_flow.specs.Lists.{node_list_async, arm_list_async, block_list_async}
use Rattle.ceu_low_flow.proofs.search.+asyncs.Given as goal

abbrev pub decreases-stmt_async : goal.decreases-stmt_async
decreases-stmt_async l = stmt_size l.stmt.now

abbrev pub decreases-block_async : goal.decreases-block_async
decreases-block_async l = block_size l.block.now

abbrev pub decreases-nodes_async : goal.decreases-nodes_async
decreases-nodes_async l = node_list_size l.nodes.now

abbrev pub decreases-arm_async : goal.decreases-arm_async
decreases-arm_async l = arm_size l.arm.now

abbrev pub decreases-arms_async : goal.decreases-arms_async
decreases-arms_async l = arm_list_size l.arms.now

abbrev pub decreases-branches_async : goal.decreases-branches_async
decreases-branches_async l = block_list_size l.branches.now

abbrev pub invariant-nodes_async-loop-part : goal.invariant-nodes_async-loop-part
invariant-nodes_async-loop-part l = node_list_async l.node l.inside l.nodes ≡ node_list_async l.node l.inside (drop l.part-index l.nodes)

abbrev pub invariant-arms_async-loop-part : goal.invariant-arms_async-loop-part
invariant-arms_async-loop-part l = arm_list_async l.node l.inside l.arms ≡ arm_list_async l.node l.inside (drop l.part-index l.arms)

abbrev pub invariant-branches_async-loop-part : goal.invariant-branches_async-loop-part
invariant-branches_async-loop-part l = block_list_async l.node l.inside l.branches ≡ block_list_async l.node l.inside (drop l.part-index l.branches)
