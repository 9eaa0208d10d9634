use Rattle.std.proofs.Common.{◌+◌, ◌*◌, drop}
use Rattle.ceu_tree.proofs.Sizes.{stmt_size, block_size, node_list_size, arm_size, arm_list_size, block_list_size}
use Rattle.ceu_listing.specs.Lines.{text}
use Rattle.ceu_listing.specs.Rows as rows
use Rattle.ceu_listing.specs.Rows.{AreNumbered}
use Rattle.ceu_io.proofs.Written.{Printed}
use Rattle.ceu_listing.proofs.kernel_parts.+listing.Given as goal

abbrev pub decreases-print_stmt : goal.decreases-print_stmt
decreases-print_stmt g l = 2 * stmt_size l.stmt.now

abbrev pub decreases-print_gated : goal.decreases-print_gated
decreases-print_gated g l = 2 * block_size l.body.now + 1

abbrev pub decreases-print_if : goal.decreases-print_if
decreases-print_if g l = 2 * (arm_list_size l.arms.now + block_size l.last.now) + 1

abbrev pub decreases-print_loop : goal.decreases-print_loop
decreases-print_loop g l = 2 * block_size l.body.now + 1

abbrev pub decreases-print_par : goal.decreases-print_par
decreases-print_par g l = 2 * block_list_size l.branches.now + 1

abbrev pub decreases-print_block : goal.decreases-print_block
decreases-print_block g l = 2 * block_size l.block.now

abbrev pub decreases-print_arm : goal.decreases-print_arm
decreases-print_arm g l = 2 * arm_size l.arm.now

abbrev pub decreases-print_nodes : goal.decreases-print_nodes
decreases-print_nodes g l = 2 * node_list_size l.nodes.now

abbrev pub decreases-print_arms : goal.decreases-print_arms
decreases-print_arms g l = 2 * arm_list_size l.arms.now

abbrev pub decreases-print_branches : goal.decreases-print_branches
decreases-print_branches g l = 2 * block_list_size l.branches.now

abbrev pub invariant-print_nodes-loop-node : goal.invariant-print_nodes-loop-node
invariant-print_nodes-loop-node g l = record {
  printed : Printed (text (g.P.Places.planned l.places) l.gates (rows.list_rows rows.node_rows l.nodes)) (text (g.P.Places.planned l.places) l.gates (rows.list_rows rows.node_rows (drop l.node-index l.nodes))) l.going l.goes (g.O.Sink.held l.fn.out) (g.O.Sink.held l.out) (g.O.Sink.faults l.fn.out) (g.O.Sink.faults l.out);
  numbered : AreNumbered (g.P.Places.planned l.places).slot_count (g.P.Places.planned l.places).code_count (rows.list_rows rows.node_rows (drop l.node-index l.nodes));
}

abbrev pub invariant-print_arms-loop-arm : goal.invariant-print_arms-loop-arm
invariant-print_arms-loop-arm g l = record {
  printed : Printed (text (g.P.Places.planned l.places) l.gates (rows.list_rows rows.arm_rows l.arms)) (text (g.P.Places.planned l.places) l.gates (rows.list_rows rows.arm_rows (drop l.arm-index l.arms))) l.going l.goes (g.O.Sink.held l.fn.out) (g.O.Sink.held l.out) (g.O.Sink.faults l.fn.out) (g.O.Sink.faults l.out);
  numbered : AreNumbered (g.P.Places.planned l.places).slot_count (g.P.Places.planned l.places).code_count (rows.list_rows rows.arm_rows (drop l.arm-index l.arms));
}

abbrev pub invariant-print_branches-loop-branch : goal.invariant-print_branches-loop-branch
invariant-print_branches-loop-branch g l = record {
  printed : Printed (text (g.P.Places.planned l.places) l.gates (rows.list_rows rows.block_rows l.branches)) (text (g.P.Places.planned l.places) l.gates (rows.list_rows rows.block_rows (drop l.branch-index l.branches))) l.going l.goes (g.O.Sink.held l.fn.out) (g.O.Sink.held l.out) (g.O.Sink.faults l.fn.out) (g.O.Sink.faults l.out);
  numbered : AreNumbered (g.P.Places.planned l.places).slot_count (g.P.Places.planned l.places).code_count (rows.list_rows rows.block_rows (drop l.branch-index l.branches));
}
