-- What the code of a kernel is computed with.
use Rattle.std.proofs.Common.{ℕ, ◌*◌, List}
use Rattle.ceu_tree.specs.declared.kernel.Kernel.{Kernel}
use Rattle.ceu_tree.specs.Needs.{slots, stmt_need, stmt_gates, nodes_finalizers, gates}
use Rattle.ceu_tree.specs.Depth.{depth, stmt_depth, node_depth}
use Rattle.ceu_tree.specs.Numbering.{stmt_nodes, stmt_slots}
use Rattle.ceu_tree.specs.declared.kernel.KBlock.{roll-KBlock, out-KBlock}
use Rattle.ceu_tree.specs.declared.kernel.KStmt.{out-KStmt}
use Rattle.ceu_tree.specs.declared.kernel.KExpNode.TheBlock as expression
use Rattle.ceu_tree.specs.declared.kernel.KStmt.TheBlock as kernel_block
use Rattle.ceu_tree.proofs.Build.{block}
use Rattle.ceu_code.specs.Table.{low_first}
use Rattle.ceu_code.specs.Instructions.{spelled}
use Rattle.ceu_shape.specs.Plans.{Plan, plan_of}
use Rattle.ceu_shape.specs.Expressions.{node_draft}
use Rattle.ceu_shape.specs.Searches.{stmt_target, escape_target, stmt_async, stands_in_async, stmt_pools, kernel_pools}
use Rattle.ceu_shape.specs.Shape.{parts_draft, kernel_piece, shape_positions, shape_lines, shape}
use denote.Hole.Carrier

-- what computes
unfoldable pub coded : ℕ
unfolding low_first slots stmt_need stmt_gates nodes_finalizers gates depth stmt_depth node_depth stmt_nodes stmt_slots node_draft stmt_target escape_target stmt_async stands_in_async stmt_pools kernel_pools parts_draft kernel_piece shape_positions shape_lines shape block roll-KBlock out-KBlock out-KStmt Carrier.out Carrier.roll Carrier.shown Carrier.hidden kernel_block.hidden-the_row-KNode-2 kernel_block.hidden-the_row-KBlock-1 kernel_block.hidden-the_row-KArm-0 expression.hidden-the_row-KExp-0
coded = 0
