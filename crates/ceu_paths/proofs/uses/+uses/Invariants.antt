use Rattle.std.proofs.Common.{◌≡◌, ◌++◌, take}
use Rattle.ceu_tree.proofs.Sizes.{stmt_size, block_size, node_list_size, arm_size, arm_list_size, block_list_size}
use Rattle.ceu_paths.specs.Uses.{node_uses, arm_uses, block_uses}
use Rattle.ceu_paths.specs.Joined.{joined}
use Rattle.ceu_paths.proofs.uses.+uses.Given as goal

abbrev pub decreases-uses_in_stmt : goal.decreases-uses_in_stmt
decreases-uses_in_stmt l = stmt_size l.stmt.now

abbrev pub decreases-uses_in : goal.decreases-uses_in
decreases-uses_in l = block_size l.block.now

abbrev pub decreases-uses_in_nodes : goal.decreases-uses_in_nodes
decreases-uses_in_nodes l = node_list_size l.nodes.now

abbrev pub decreases-uses_in_arm : goal.decreases-uses_in_arm
decreases-uses_in_arm l = arm_size l.arm.now

abbrev pub decreases-uses_in_arms : goal.decreases-uses_in_arms
decreases-uses_in_arms l = arm_list_size l.arms.now

abbrev pub decreases-uses_in_blocks : goal.decreases-uses_in_blocks
decreases-uses_in_blocks l = block_list_size l.blocks.now

abbrev pub invariant-uses_in_nodes-loop-node : goal.invariant-uses_in_nodes-loop-node
invariant-uses_in_nodes-loop-node l = l.found.items ≡ l.initial.found.items ++ joined node_uses (take l.node-index l.nodes)

abbrev pub invariant-uses_in_arms-loop-arm : goal.invariant-uses_in_arms-loop-arm
invariant-uses_in_arms-loop-arm l = l.found.items ≡ l.initial.found.items ++ joined arm_uses (take l.arm-index l.arms)

abbrev pub invariant-uses_in_blocks-loop-block : goal.invariant-uses_in_blocks-loop-block
invariant-uses_in_blocks-loop-block l = l.found.items ≡ l.initial.found.items ++ joined block_uses (take l.block-index l.blocks)
