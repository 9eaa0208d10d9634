use Rattle.std.proofs.Common.{◌≡◌, take}
use Rattle.ceu_types.proofs.StmtSizes.{stmt_size, source_size, do_size, block_size, node_size, item_size, arm_size, range_size, if_block_size, total}
use Rattle.ceu_expand.specs.Expansion as spec
use Rattle.ceu_expand.specs.Lists.{each, gathered}
use Rattle.ceu_expand.proofs.draft.Draft.+statements.Given as goal

abbrev pub decreases-stmt : goal.decreases-stmt
decreases-stmt l = stmt_size l.stmt.now

abbrev pub decreases-block : goal.decreases-block
decreases-block l = block_size l.block.now

abbrev pub decreases-nodes : goal.decreases-nodes
decreases-nodes l = total node_size l.nodes.now

abbrev pub decreases-items : goal.decreases-items
decreases-items l = total item_size l.items.now

abbrev pub decreases-item : goal.decreases-item
decreases-item l = item_size l.item.now

abbrev pub decreases-source : goal.decreases-source
decreases-source l = source_size l.source.now

abbrev pub decreases-do_block : goal.decreases-do_block
decreases-do_block l = do_size l.body.now

abbrev pub decreases-arm : goal.decreases-arm
decreases-arm l = arm_size l.arm.now

abbrev pub decreases-arms : goal.decreases-arms
decreases-arms l = total arm_size l.arms.now

abbrev pub decreases-last : goal.decreases-last
decreases-last l = if_block_size l.last.now

abbrev pub decreases-blocks : goal.decreases-blocks
decreases-blocks l = total block_size l.blocks.now

abbrev pub decreases-range : goal.decreases-range
decreases-range l = range_size l.range.now

abbrev pub decreases-every : goal.decreases-every
decreases-every l = block_size l.body.now

abbrev pub invariant-nodes-loop-node : goal.invariant-nodes-loop-node
invariant-nodes-loop-node l = l.self ≡ each (spec.node_step l.scopes l.types l.around) (take l.node-index l.nodes) l.initial.self

abbrev pub invariant-items-loop-item : goal.invariant-items-loop-item
invariant-items-loop-item l = l.self ≡ each (spec.item_step l.scopes l.types l.around l.pos l.ty) (take l.item-index l.items) l.initial.self

abbrev pub invariant-arms-loop-arm : goal.invariant-arms-loop-arm
invariant-arms-loop-arm l =
    record {
      made : l.made ≡ gathered (spec.arm_written l.scopes l.types l.around) (spec.arm_passed l.scopes l.types l.around) (take l.arm-index l.arms) l.initial.self;
      self : l.self ≡ each (spec.arm_passed l.scopes l.types l.around) (take l.arm-index l.arms) l.initial.self;
    }

abbrev pub invariant-blocks-loop-block : goal.invariant-blocks-loop-block
invariant-blocks-loop-block l =
    record {
      made : l.made ≡ gathered (spec.block_written l.scopes l.types l.around) (spec.block_passed l.scopes l.types l.around) (take l.block-index l.blocks) l.initial.self;
      self : l.self ≡ each (spec.block_passed l.scopes l.types l.around) (take l.block-index l.blocks) l.initial.self;
    }
