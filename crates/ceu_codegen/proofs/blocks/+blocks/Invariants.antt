use Rattle.std.proofs.Common.{◌≡◌, ◌+◌, ◌*◌, drop}
use Rattle.ceu_tree.specs.Greatest.{total}
use Rattle.ceu_tree.specs.Weight.{branch_weight, node_weight}
use Rattle.ceu_tree.proofs.Sizes.{stmt_size, block_size, node_list_size, arm_size, arm_list_size, block_list_size}
use Rattle.ceu_asm.specs.Pages.{Page}
use Rattle.ceu_shape.specs.Pieces.{Added}
use Rattle.ceu_low_expr.specs.Conditions.{HasRoom}
use Rattle.ceu_codegen.specs.Conditions.{planned}
use Rattle.ceu_codegen.specs.Lists.{node_list_draft, arm_list_draft, block_list_draft, NodeListFits, ArmListFits, BlockListFits}
use Rattle.ceu_codegen.specs.Rooms.{arm_room}
use Rattle.ceu_codegen.proofs.blocks.+blocks.Given as goal

abbrev pub decreases-lower_block : goal.decreases-lower_block
decreases-lower_block g l = 2 * block_size l.block.now

abbrev pub decreases-lower_branch : goal.decreases-lower_branch
decreases-lower_branch g l = 2 * block_size l.block.now + 1

abbrev pub decreases-lower_nodes : goal.decreases-lower_nodes
decreases-lower_nodes g l = 2 * node_list_size l.nodes.now

abbrev pub decreases-lower_node : goal.decreases-lower_node
decreases-lower_node g l = 2 * stmt_size l.node.now.stmt + 1

abbrev pub decreases-lower_parts : goal.decreases-lower_parts
decreases-lower_parts g l = 2 * stmt_size l.stmt.now

abbrev pub decreases-lower_arm : goal.decreases-lower_arm
decreases-lower_arm g l = 2 * arm_size l.arm.now

abbrev pub decreases-lower_arms : goal.decreases-lower_arms
decreases-lower_arms g l = 2 * arm_list_size l.arms.now + 1

abbrev pub decreases-lower_branches : goal.decreases-lower_branches
decreases-lower_branches g l = 2 * block_list_size l.branches.now

abbrev pub invariant-lower_nodes-loop-node : goal.invariant-lower_nodes-loop-node
invariant-lower_nodes-loop-node g l =
    let p = g.P.Places.planned l.places in
    let plan = planned p l.gates in
    record {
      whole : (new : Page) → Added l.sheet new (node_list_draft plan l.kernel (drop l.node-index l.nodes)) → Added l.initial.sheet new (node_list_draft plan l.kernel l.nodes);
      fits : NodeListFits p l.gates l.kernel (drop l.node-index l.nodes);
      room : HasRoom l.sheet (total node_weight (drop l.node-index l.nodes));
    }

abbrev pub invariant-lower_arms-loop-arm : goal.invariant-lower_arms-loop-arm
invariant-lower_arms-loop-arm g l =
    let p = g.P.Places.planned l.places in
    let plan = planned p l.gates in
    record {
      whole : (new : Page) → Added l.sheet new (arm_list_draft plan l.kernel l.at (drop l.arm-index l.arms)) → Added l.initial.sheet new (arm_list_draft plan l.kernel l.begin l.arms);
      fits : ArmListFits p l.gates l.kernel (drop l.arm-index l.arms);
      room : HasRoom l.sheet (total arm_room (drop l.arm-index l.arms));
      at : l.at ≡ l.begin + 2 * l.arm-index;
    }

abbrev pub invariant-lower_branches-loop-branch : goal.invariant-lower_branches-loop-branch
invariant-lower_branches-loop-branch g l =
    let p = g.P.Places.planned l.places in
    let plan = planned p l.gates in
    record {
      whole : (new : Page) → Added l.sheet new (block_list_draft plan l.kernel (drop l.branch-index l.branches)) → Added l.initial.sheet new (block_list_draft plan l.kernel l.branches);
      fits : BlockListFits p l.gates l.kernel (drop l.branch-index l.branches);
      room : HasRoom l.sheet (total branch_weight (drop l.branch-index l.branches));
    }
