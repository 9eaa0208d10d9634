use Rattle.std.proofs.Common.{◌≡◌, suc, ◌++◌, ◌≤◌, ◌<◌, length, map, codes}
use Rattle.std.specs.Prelude.{string_bytes}
use Rattle.ceu_tree.specs.declared.source.Block.{out-Block}
use Rattle.ceu_print.specs.Lists.{each_after}
use Rattle.ceu_print.specs.Statements.{item_text, arm_line, branch_text, lines_text}
use Rattle.ceu_print.proofs.StatementSizes.{stmt_size, source_size, do_size, body_size, arm_size, range_size, item_size, else_size, node_size, total_size}
use Rattle.ceu_print.proofs.statements.+statement.Given as goal

abbrev pub decreases-put_stmt : goal.decreases-put_stmt
decreases-put_stmt l = stmt_size l.stmt.now

abbrev pub decreases-put_items : goal.decreases-put_items
decreases-put_items l = total_size item_size l.items.now

abbrev pub decreases-put_item : goal.decreases-put_item
decreases-put_item l = item_size l.item.now

abbrev pub decreases-put_source : goal.decreases-put_source
decreases-put_source l = source_size l.source.now

abbrev pub decreases-put_do : goal.decreases-put_do
decreases-put_do l = do_size l.block.now

abbrev pub decreases-put_range : goal.decreases-put_range
decreases-put_range l = range_size l.range.now

abbrev pub decreases-put_body : goal.decreases-put_body
decreases-put_body l = body_size l.block.now

abbrev pub decreases-put_block : goal.decreases-put_block
decreases-put_block l = suc (total_size node_size (out-Block l.block.now).list)

abbrev pub decreases-put_lines : goal.decreases-put_lines
decreases-put_lines l = total_size node_size l.nodes.now

abbrev pub decreases-put_line : goal.decreases-put_line
decreases-put_line l = node_size l.node.now

abbrev pub decreases-put_arms : goal.decreases-put_arms
decreases-put_arms l = total_size arm_size l.arms.now

abbrev pub decreases-put_arm : goal.decreases-put_arm
decreases-put_arm l = arm_size l.arm.now

abbrev pub decreases-put_else : goal.decreases-put_else
decreases-put_else l = else_size l.last.now

abbrev pub decreases-put_branches : goal.decreases-put_branches
decreases-put_branches l = total_size body_size l.branches.now

abbrev pub invariant-put_items-loop-rest : goal.invariant-put_items-loop-rest
invariant-put_items-loop-rest l = record {
  same : string_bytes l.out ++ each_after (codes ", ") (map (item_text l.margin) l.rest) ≡ string_bytes l.initial.out ++ each_after (codes ", ") (map (item_text l.margin) l.initial.rest);
  fewer : total_size item_size l.rest < total_size item_size l.fn.items;
}

abbrev pub decreases-put_items-loop-rest : goal.decreases-put_items-loop-rest
decreases-put_items-loop-rest l = length l.rest

abbrev pub invariant-put_lines-loop-rest : goal.invariant-put_lines-loop-rest
invariant-put_lines-loop-rest l = record {
  same : string_bytes l.out ++ lines_text l.margin l.rest ≡ string_bytes l.initial.out ++ lines_text l.margin l.initial.rest;
  fewer : total_size node_size l.rest ≤ total_size node_size l.fn.nodes;
}

abbrev pub decreases-put_lines-loop-rest : goal.decreases-put_lines-loop-rest
decreases-put_lines-loop-rest l = length l.rest

abbrev pub invariant-put_arms-loop-rest : goal.invariant-put_arms-loop-rest
invariant-put_arms-loop-rest l = record {
  same : string_bytes l.out ++ each_after (codes "else/") (map (arm_line l.margin) l.rest) ≡ string_bytes l.initial.out ++ each_after (codes "else/") (map (arm_line l.margin) l.initial.rest);
  fewer : total_size arm_size l.rest < total_size arm_size l.fn.arms;
}

abbrev pub decreases-put_arms-loop-rest : goal.decreases-put_arms-loop-rest
decreases-put_arms-loop-rest l = length l.rest

abbrev pub invariant-put_branches-loop-rest : goal.invariant-put_branches-loop-rest
invariant-put_branches-loop-rest l = record {
  same : string_bytes l.out ++ each_after (codes "with") (map (branch_text l.margin) l.rest) ≡ string_bytes l.initial.out ++ each_after (codes "with") (map (branch_text l.margin) l.initial.rest);
  fewer : total_size body_size l.rest < total_size body_size l.fn.branches;
}

abbrev pub decreases-put_branches-loop-rest : goal.decreases-put_branches-loop-rest
decreases-put_branches-loop-rest l = length l.rest
