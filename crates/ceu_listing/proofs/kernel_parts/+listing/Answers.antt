use Rattle.std.proofs.Common.{◌+◌, ◌<◌, length, drop, rules, arith}
use Rattle.ceu_listing.specs.Rows as rows
use Rattle.ceu_listing.specs.Lines.{text}
use Rattle.ceu_io.proofs.Written.{printed_more}
use Rattle.ceu_listing.proofs.Texts.{text_next, numbered_next, node_smaller, arm_smaller, block_smaller}
use Rattle.ceu_listing.proofs.kernel_parts.+listing.Goals as goal

pub print_arms-print_arm-goes-requires : goal.print_arms-print_arm-goes-requires
print_arms-print_arm-goes-requires g t c κs within =
    let p = g.P.Places.planned c.args.places.now in
    let below : c.loop-arm.arm-index < length c.args.arms.now = omega arith in
    let small = arm_smaller c.args.arms.now c.loop-arm.arm-index c.arm-item.result c.arm-item.is below in
    let numbered = (numbered_next p.slot_count p.code_count rows.arm_rows c.args.arms.now c.loop-arm.arm-index c.arm-item.result c.arm-item.is below c.loop-arm.invariant.numbered).0 in
    search (rules, small, numbered)

pub print_arms-loop-arm-preserved : goal.print_arms-loop-arm-preserved
print_arms-loop-arm-preserved g t c =
    let p = g.P.Places.planned c.args.places.now in
    let below : c.loop-arm.arm-index < length c.args.arms.now = omega arith in
    record {
      printed = printed_more (text p c.args.gates.now (rows.list_rows rows.arm_rows c.args.arms.now)) (text p c.args.gates.now (rows.list_rows rows.arm_rows (drop c.loop-arm.arm-index c.args.arms.now))) (text p c.args.gates.now (rows.arm_rows c.arm-item.result)) (text p c.args.gates.now (rows.list_rows rows.arm_rows (drop (c.loop-arm.arm-index + 1) c.args.arms.now)))
          c.args.going c.loop-arm.goes c.print_arm-goes.result (g.O.Sink.held c.args.out.now) (g.O.Sink.held c.loop-arm.out) (g.O.Sink.held c.print_arm-goes.new.out) (g.O.Sink.faults c.args.out.now) (g.O.Sink.faults c.loop-arm.out) (g.O.Sink.faults c.print_arm-goes.new.out)
          c.loop-arm.invariant.printed (text_next p c.args.gates.now rows.arm_rows c.args.arms.now c.loop-arm.arm-index c.arm-item.result c.arm-item.is below) c.print_arm-goes.ensures;
      numbered = (numbered_next p.slot_count p.code_count rows.arm_rows c.args.arms.now c.loop-arm.arm-index c.arm-item.result c.arm-item.is below c.loop-arm.invariant.numbered).1;
    }

pub print_branches-print_block-goes-requires : goal.print_branches-print_block-goes-requires
print_branches-print_block-goes-requires g t c κs within =
    let p = g.P.Places.planned c.args.places.now in
    let below : c.loop-branch.branch-index < length c.args.branches.now = omega arith in
    let small = block_smaller c.args.branches.now c.loop-branch.branch-index c.branch-item.result c.branch-item.is below in
    let numbered = (numbered_next p.slot_count p.code_count rows.block_rows c.args.branches.now c.loop-branch.branch-index c.branch-item.result c.branch-item.is below c.loop-branch.invariant.numbered).0 in
    search (rules, small, numbered)

pub print_branches-loop-branch-preserved : goal.print_branches-loop-branch-preserved
print_branches-loop-branch-preserved g t c =
    let p = g.P.Places.planned c.args.places.now in
    let below : c.loop-branch.branch-index < length c.args.branches.now = omega arith in
    record {
      printed = printed_more (text p c.args.gates.now (rows.list_rows rows.block_rows c.args.branches.now)) (text p c.args.gates.now (rows.list_rows rows.block_rows (drop c.loop-branch.branch-index c.args.branches.now))) (text p c.args.gates.now (rows.block_rows c.branch-item.result)) (text p c.args.gates.now (rows.list_rows rows.block_rows (drop (c.loop-branch.branch-index + 1) c.args.branches.now)))
          c.args.going c.loop-branch.goes c.print_block-goes.result (g.O.Sink.held c.args.out.now) (g.O.Sink.held c.loop-branch.out) (g.O.Sink.held c.print_block-goes.new.out) (g.O.Sink.faults c.args.out.now) (g.O.Sink.faults c.loop-branch.out) (g.O.Sink.faults c.print_block-goes.new.out)
          c.loop-branch.invariant.printed (text_next p c.args.gates.now rows.block_rows c.args.branches.now c.loop-branch.branch-index c.branch-item.result c.branch-item.is below) c.print_block-goes.ensures;
      numbered = (numbered_next p.slot_count p.code_count rows.block_rows c.args.branches.now c.loop-branch.branch-index c.branch-item.result c.branch-item.is below c.loop-branch.invariant.numbered).1;
    }

pub print_nodes-print_stmt-goes-requires : goal.print_nodes-print_stmt-goes-requires
print_nodes-print_stmt-goes-requires g t c κs within =
    let p = g.P.Places.planned c.args.places.now in
    let below : c.loop-node.node-index < length c.args.nodes.now = omega arith in
    let small = node_smaller c.args.nodes.now c.loop-node.node-index c.node-item.result c.node-item.is below in
    let numbered = (numbered_next p.slot_count p.code_count rows.node_rows c.args.nodes.now c.loop-node.node-index c.node-item.result c.node-item.is below c.loop-node.invariant.numbered).0 in
    search (rules, small, numbered)

pub print_nodes-loop-node-preserved : goal.print_nodes-loop-node-preserved
print_nodes-loop-node-preserved g t c =
    let p = g.P.Places.planned c.args.places.now in
    let below : c.loop-node.node-index < length c.args.nodes.now = omega arith in
    record {
      printed = printed_more (text p c.args.gates.now (rows.list_rows rows.node_rows c.args.nodes.now)) (text p c.args.gates.now (rows.list_rows rows.node_rows (drop c.loop-node.node-index c.args.nodes.now))) (text p c.args.gates.now (rows.node_rows c.node-item.result)) (text p c.args.gates.now (rows.list_rows rows.node_rows (drop (c.loop-node.node-index + 1) c.args.nodes.now)))
          c.args.going c.loop-node.goes c.print_stmt-goes.result (g.O.Sink.held c.args.out.now) (g.O.Sink.held c.loop-node.out) (g.O.Sink.held c.print_stmt-goes.new.out) (g.O.Sink.faults c.args.out.now) (g.O.Sink.faults c.loop-node.out) (g.O.Sink.faults c.print_stmt-goes.new.out)
          c.loop-node.invariant.printed (text_next p c.args.gates.now rows.node_rows c.args.nodes.now c.loop-node.node-index c.node-item.result c.node-item.is below) c.print_stmt-goes.ensures;
      numbered = (numbered_next p.slot_count p.code_count rows.node_rows c.args.nodes.now c.loop-node.node-index c.node-item.result c.node-item.is below c.loop-node.invariant.numbered).1;
    }
