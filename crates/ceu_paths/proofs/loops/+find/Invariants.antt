use Rattle.std.proofs.Common.{◌≡◌, ◌++◌, take, map}
use Rattle.ceu_tree.proofs.Sizes.{stmt_size, block_size, node_list_size, arm_size, arm_list_size, block_list_size}
use Rattle.ceu_paths.specs.Loops.{node_loops, arm_loops, block_loops}
use Rattle.ceu_paths.specs.Joined.{joined}
use Rattle.ceu_paths.specs.Found.{seen}
use Rattle.ceu_paths.proofs.loops.+find.Given as goal

abbrev pub decreases-find_in_stmt : goal.decreases-find_in_stmt
decreases-find_in_stmt l = stmt_size l.stmt.now

abbrev pub decreases-find_loops : goal.decreases-find_loops
decreases-find_loops l = block_size l.block.now

abbrev pub decreases-find_in_nodes : goal.decreases-find_in_nodes
decreases-find_in_nodes l = node_list_size l.nodes.now

abbrev pub decreases-find_in_arm : goal.decreases-find_in_arm
decreases-find_in_arm l = arm_size l.arm.now

abbrev pub decreases-find_in_arms : goal.decreases-find_in_arms
decreases-find_in_arms l = arm_list_size l.arms.now

abbrev pub decreases-find_in_blocks : goal.decreases-find_in_blocks
decreases-find_in_blocks l = block_list_size l.blocks.now

abbrev pub invariant-find_in_nodes-loop-node : goal.invariant-find_in_nodes-loop-node
invariant-find_in_nodes-loop-node l = map seen l.found.items ≡ map seen l.initial.found.items ++ joined node_loops (take l.node-index l.nodes)

abbrev pub invariant-find_in_arms-loop-arm : goal.invariant-find_in_arms-loop-arm
invariant-find_in_arms-loop-arm l = map seen l.found.items ≡ map seen l.initial.found.items ++ joined arm_loops (take l.arm-index l.arms)

abbrev pub invariant-find_in_blocks-loop-block : goal.invariant-find_in_blocks-loop-block
invariant-find_in_blocks-loop-block l = map seen l.found.items ≡ map seen l.initial.found.items ++ joined block_loops (take l.block-index l.blocks)
