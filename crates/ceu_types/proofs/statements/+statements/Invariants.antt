use Rattle.std.proofs.Common.{◌≡◌, take}
use Rattle.std.specs.List.{fold}
use Rattle.ceu_tree.specs.declared.source.Block.{out-Block}
use Rattle.ceu_types.specs.Statements as spec
use Rattle.ceu_types.proofs.StmtSizes.{stmt_size, source_size, do_size, block_size, node_size, item_size, arm_size, if_block_size, total}
use Rattle.ceu_types.proofs.statements.+statements.Given as goal

abbrev pub decreases-stmt_found : goal.decreases-stmt_found
decreases-stmt_found l = stmt_size l.stmt.now

abbrev pub decreases-source_found : goal.decreases-source_found
decreases-source_found l = source_size l.value.now

abbrev pub decreases-do_found : goal.decreases-do_found
decreases-do_found l = do_size l.body.now

abbrev pub decreases-block_found : goal.decreases-block_found
decreases-block_found l = block_size l.block.now

abbrev pub decreases-node_found : goal.decreases-node_found
decreases-node_found l = node_size l.node.now

abbrev pub decreases-items_found : goal.decreases-items_found
decreases-items_found l = total item_size l.items.now

abbrev pub decreases-item_found : goal.decreases-item_found
decreases-item_found l = item_size l.item.now

abbrev pub decreases-arms_found : goal.decreases-arms_found
decreases-arms_found l = total arm_size l.arms.now

abbrev pub decreases-last_found : goal.decreases-last_found
decreases-last_found l = if_block_size l.last.now

abbrev pub decreases-blocks_found : goal.decreases-blocks_found
decreases-blocks_found l = total block_size l.blocks.now

abbrev pub invariant-block_found-loop-node : goal.invariant-block_found-loop-node
invariant-block_found-loop-node l = l.found ≡ fold (spec.node_stepped l.scopes l.around) l.initial.found (take l.node-index (out-Block l.block).list)

abbrev pub invariant-items_found-loop-item : goal.invariant-items_found-loop-item
invariant-items_found-loop-item l = l.found ≡ fold (spec.item_stepped l.scopes l.around l.ty) l.initial.found (take l.item-index l.items)

abbrev pub invariant-arms_found-loop-arm : goal.invariant-arms_found-loop-arm
invariant-arms_found-loop-arm l = l.found ≡ fold (spec.arm_stepped l.scopes l.around) l.initial.found (take l.arm-index l.arms)

abbrev pub invariant-blocks_found-loop-block : goal.invariant-blocks_found-loop-block
invariant-blocks_found-loop-block l = l.found ≡ fold (spec.block_stepped l.scopes l.around) l.initial.found (take l.block-index l.blocks)
