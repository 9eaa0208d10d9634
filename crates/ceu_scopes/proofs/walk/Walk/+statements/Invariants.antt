use Rattle.std.proofs.Common.{◌≡◌, drop}
use Rattle.ceu_tree.specs.declared.source.Item.{back-Item-value}
use Rattle.ceu_scopes.specs.Names.{arm_walked}
use Rattle.ceu_scopes.specs.Parts.{statement_walked, branch_walked, item_walked}
use Rattle.ceu_scopes.specs.Walk.{each}
use Rattle.ceu_scopes.proofs.Sizes.{stmt_size, source_size, value_size, do_size, block_size, arm_size, range_size, item_size, node_size, list_size}
use Rattle.ceu_scopes.proofs.walk.Walk.+statements.Given as goal

abbrev pub decreases-stmt : goal.decreases-stmt
decreases-stmt l = stmt_size l.stmt.now

abbrev pub decreases-block : goal.decreases-block
decreases-block l = block_size l.block.now

abbrev pub decreases-nodes : goal.decreases-nodes
decreases-nodes l = list_size node_size l.nodes.now

abbrev pub decreases-items : goal.decreases-items
decreases-items l = list_size item_size l.items.now

abbrev pub decreases-item : goal.decreases-item
decreases-item l = item_size l.item.now

abbrev pub decreases-value : goal.decreases-value
decreases-value l = value_size (back-Item-value l.value.now)

abbrev pub decreases-source : goal.decreases-source
decreases-source l = source_size l.source.now

abbrev pub decreases-do_block : goal.decreases-do_block
decreases-do_block l = do_size l.body.now

abbrev pub decreases-arms : goal.decreases-arms
decreases-arms l = list_size arm_size l.arms.now

abbrev pub decreases-arm : goal.decreases-arm
decreases-arm l = arm_size l.arm.now

abbrev pub decreases-range : goal.decreases-range
decreases-range l = range_size l.range.now

abbrev pub decreases-branches : goal.decreases-branches
decreases-branches l = list_size block_size l.branches.now

abbrev pub invariant-nodes-loop-node : goal.invariant-nodes-loop-node
invariant-nodes-loop-node l = each statement_walked l.nodes l.initial.self ≡ each statement_walked (drop l.node-index l.nodes) l.self

abbrev pub invariant-items-loop-item : goal.invariant-items-loop-item
invariant-items-loop-item l = each (item_walked l.ty) l.items l.initial.self ≡ each (item_walked l.ty) (drop l.item-index l.items) l.self

abbrev pub invariant-arms-loop-arm : goal.invariant-arms-loop-arm
invariant-arms-loop-arm l = each arm_walked l.arms l.initial.self ≡ each arm_walked (drop l.arm-index l.arms) l.self

abbrev pub invariant-branches-loop-branch : goal.invariant-branches-loop-branch
invariant-branches-loop-branch l = each branch_walked l.branches l.initial.self ≡ each branch_walked (drop l.branch-index l.branches) l.self
