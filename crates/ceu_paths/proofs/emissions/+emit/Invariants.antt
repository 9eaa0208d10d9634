use Rattle.std.proofs.Common.{◌≡◌, ◌++◌, take}
use Rattle.ceu_tree.proofs.Sizes.{stmt_size, block_size, node_list_size, arm_size, arm_list_size, block_list_size}
use Rattle.ceu_paths.specs.Emits.{node_emits, arm_emits, block_emits}
use Rattle.ceu_paths.specs.Joined.{joined}
use Rattle.ceu_paths.proofs.emissions.+emit.Given as goal

abbrev pub decreases-emit_in_stmt : goal.decreases-emit_in_stmt
decreases-emit_in_stmt l = stmt_size l.stmt.now

abbrev pub decreases-emit_in : goal.decreases-emit_in
decreases-emit_in l = block_size l.block.now

abbrev pub decreases-emit_in_nodes : goal.decreases-emit_in_nodes
decreases-emit_in_nodes l = node_list_size l.nodes.now

abbrev pub decreases-emit_in_arm : goal.decreases-emit_in_arm
decreases-emit_in_arm l = arm_size l.arm.now

abbrev pub decreases-emit_in_arms : goal.decreases-emit_in_arms
decreases-emit_in_arms l = arm_list_size l.arms.now

abbrev pub decreases-emit_in_blocks : goal.decreases-emit_in_blocks
decreases-emit_in_blocks l = block_list_size l.blocks.now

abbrev pub invariant-emit_in_nodes-loop-node : goal.invariant-emit_in_nodes-loop-node
invariant-emit_in_nodes-loop-node l = l.found.items ≡ l.initial.found.items ++ joined node_emits (take l.node-index l.nodes)

abbrev pub invariant-emit_in_arms-loop-arm : goal.invariant-emit_in_arms-loop-arm
invariant-emit_in_arms-loop-arm l = l.found.items ≡ l.initial.found.items ++ joined arm_emits (take l.arm-index l.arms)

abbrev pub invariant-emit_in_blocks-loop-block : goal.invariant-emit_in_blocks-loop-block
invariant-emit_in_blocks-loop-block l = l.found.items ≡ l.initial.found.items ++ joined block_emits (take l.block-index l.blocks)
