use Rattle.std.proofs.Common.{◌≡◌, ◌+◌, ◌<◌, ◌≤◌, ◌++◌, length, arith}
use Rattle.ceu_tree.specs.Needs as need
use Rattle.ceu_gates.specs.Ranges as spec
use Rattle.ceu_gates.specs.Ranges.{reach}
use Rattle.ceu_gates.proofs.Reaches.{nodes_reach, nodes_goes_on, arms_reach, arms_goes_on, blocks_reach, blocks_goes_on, greatest_next, total_next, node_smaller, arm_smaller, block_smaller, next_fits, block_reached, node_reached}
use Rattle.ceu_gates.proofs.ranges.+ranges.Goals as goal

pub place_arms-place_arm-requires : goal.place_arms-place_arm-requires
place_arms-place_arm-requires t c =
    let below : c.loop-arm.arm-index < length c.args.arms.now = omega arith in
    let far = arms_reach c.args.gates.now c.args.arms.now c.loop-arm.arm-index c.args.first c.arm-item.result c.arm-item.is below in
    let small = arm_smaller c.args.arms.now c.loop-arm.arm-index c.arm-item.result c.arm-item.is below in
    (omega (arith, small), grind (arith, far, c.loop-arm.invariant.fits))

pub place_arms-loop-arm-preserved : goal.place_arms-loop-arm-preserved
place_arms-loop-arm-preserved t c =
    let below : c.loop-arm.arm-index < length c.args.arms.now = omega arith in
    let far = arms_reach c.args.gates.now c.args.arms.now c.loop-arm.arm-index c.args.first c.arm-item.result c.arm-item.is below in
    let next = greatest_next (need.arm_gates c.args.gates.now) c.args.arms.now c.loop-arm.arm-index c.arm-item.result c.arm-item.is below in
    record {
      rows = arms_goes_on c.args.gates.now c.args.arms.now c.loop-arm.arm-index c.args.first c.arm-item.result c.arm-item.is below (c.args.rows.now.items ++ spec.arm_list_ranges c.args.gates.now c.args.first c.args.arms.now) c.loop-arm.rows.items c.place_arm.new.rows.items c.loop-arm.invariant.rows c.in_ok-place_arm.ensures.rows;
      count = grind (arith, next, c.loop-arm.invariant.count, c.in_ok-place_arm.ensures.count, c.max-most.ensures);
      fits = grind (arith, far, c.loop-arm.invariant.fits);
    }

pub place_branches-place_block-requires : goal.place_branches-place_block-requires
place_branches-place_block-requires t c =
    let below : c.loop-branch.branch-index < length c.args.branches.now = omega arith in
    let far = blocks_reach c.args.gates.now c.args.branches.now c.loop-branch.branch-index (c.args.first + c.loop-branch.sum) c.branch-item.result c.branch-item.is below in
    let own = block_reached c.args.gates.now (c.args.first + c.loop-branch.sum) c.branch-item.result in
    let small = block_smaller c.args.branches.now c.loop-branch.branch-index c.branch-item.result c.branch-item.is below in
    let start : c.saturating_add.result ≡ c.args.first + c.loop-branch.sum = grind (arith, far, own, c.loop-branch.invariant.fits, c.saturating_add.ensures) in
    (omega (arith, small), rw start (grind (arith, far, c.loop-branch.invariant.fits)))

pub place_branches-loop-branch-preserved : goal.place_branches-loop-branch-preserved
place_branches-loop-branch-preserved t c =
    let below : c.loop-branch.branch-index < length c.args.branches.now = omega arith in
    let far = blocks_reach c.args.gates.now c.args.branches.now c.loop-branch.branch-index (c.args.first + c.loop-branch.sum) c.branch-item.result c.branch-item.is below in
    let own = block_reached c.args.gates.now (c.args.first + c.loop-branch.sum) c.branch-item.result in
    let start : c.saturating_add.result ≡ c.args.first + c.loop-branch.sum = grind (arith, far, own, c.loop-branch.invariant.fits, c.saturating_add.ensures) in
    let sum : c.saturating_add-sum.result ≡ c.loop-branch.sum + need.block_gates c.args.gates.now c.branch-item.result =
    grind (arith, far, own, c.loop-branch.invariant.fits, c.in_ok-count.ensures.count, c.saturating_add-sum.ensures) in
    let later : c.args.first + c.saturating_add-sum.result ≡ c.args.first + c.loop-branch.sum + need.block_gates c.args.gates.now c.branch-item.result = omega (arith, sum) in
    let next = total_next (need.block_gates c.args.gates.now) c.args.branches.now c.loop-branch.branch-index c.branch-item.result c.branch-item.is below in
    let step = c.in_ok-count.ensures.rows in
    record {
      rows = rw later (blocks_goes_on c.args.gates.now c.args.branches.now c.loop-branch.branch-index (c.args.first + c.loop-branch.sum) c.branch-item.result c.branch-item.is below
          (c.args.rows.now.items ++ spec.block_list_ranges c.args.gates.now c.args.first c.args.branches.now) c.loop-branch.rows.items c.place_block.new.rows.items c.loop-branch.invariant.rows (rw start at step));
      count = omega (arith, sum, next, c.loop-branch.invariant.count);
      fits = rw later (grind (arith, far, c.loop-branch.invariant.fits));
    }

pub place_nodes-place_node-requires : goal.place_nodes-place_node-requires
place_nodes-place_node-requires t c =
    let below : c.loop-node.node-index < length c.args.nodes.now = omega arith in
    let far = nodes_reach c.args.gates.now c.args.nodes.now c.loop-node.node-index c.loop-node.next c.args.first c.node-item.result c.node-item.is below in
    let small = node_smaller c.args.nodes.now c.loop-node.node-index c.node-item.result c.node-item.is below in
    (omega (arith, small), grind (arith, far, c.loop-node.invariant.fits, c.start_of-start.ensures))

pub place_nodes-loop-node-preserved : goal.place_nodes-loop-node-preserved
place_nodes-loop-node-preserved t c =
    let below : c.loop-node.node-index < length c.args.nodes.now = omega arith in
    let start = spec.starts c.loop-node.next c.args.first c.node-item.result.stmt in
    let far = nodes_reach c.args.gates.now c.args.nodes.now c.loop-node.node-index c.loop-node.next c.args.first c.node-item.result c.node-item.is below in
    let own = node_reached c.args.gates.now start c.node-item.result in
    let small : start ≤ 65535 = grind (arith, far, own, c.loop-node.invariant.fits) in
    let fits = next_fits c.loop-node.next c.args.first c.node-item.result.stmt small c.loop-node.invariant.small in
    let sum : c.saturating_add-next.result ≡ c.loop-node.next + need.finalizers c.node-item.result.stmt = grind (arith, fits, c.is_finalize.ensures, c.saturating_add-next.ensures) in
    let next = greatest_next (need.node_gates c.args.gates.now) c.args.nodes.now c.loop-node.node-index c.node-item.result c.node-item.is below in
    let step = c.in_ok-place_node.ensures.rows in
    record {
      rows = rw sum (nodes_goes_on c.args.gates.now c.args.nodes.now c.loop-node.node-index c.loop-node.next c.args.first c.node-item.result c.node-item.is below
          (c.args.rows.now.items ++ spec.list_ranges c.args.gates.now c.args.finalizer c.args.first c.args.nodes.now) c.loop-node.rows.items c.place_node.new.rows.items c.loop-node.invariant.rows (rw c.start_of-start.ensures at step));
      count = grind (arith, next, c.loop-node.invariant.count, c.in_ok-place_node.ensures.count, c.max-most.ensures);
      fits = rw sum (grind (arith, far, c.loop-node.invariant.fits));
      small = rw sum fits;
    }
