use Rattle.std.proofs.Common.{◌≡◌, ◌<◌, ◌+◌, ◌++◌, true, false, length, drop, ap, sym, add-one, arith}
use Rattle.std.proofs.lemmas.List.{map-append}
use Rattle.ceu_tree.specs.Paths.{has_end, seq_ways, quick_arm, quick_block, quick_node, quick_list}
use Rattle.ceu_paths.specs.Ways.{way, ways}
use Rattle.ceu_paths.proofs.WayLaws.{gathered_more, all_end_more, list_step, goes_on, stops}
use Rattle.ceu_paths.proofs.ways.+ways.Goals as goal

pub arms_exits-loop-arm-preserved : goal.arms_exits-loop-arm-preserved
arms_exits-loop-arm-preserved t c =
    let below : c.loop-arm.arm-index < length c.args.arms.now = omega arith in
    let more = gathered_more (quick_arm c.args.passing.now) c.args.arms.now c.loop-arm.arm-index c.arm-item.result below in
    let here = ap (quick_arm c.args.passing.now) (sym c.arm-item.is) in
    let both = map-append way c.loop-arm.exits.items c.in_ok-here.here.items in
    rw add-one (cc (more, here, both, c.loop-arm.invariant, c.in_ok-here.ensures, c.deref.ensures.value, c.in_ok-extend_from_slice.ensures.items))

pub branches_exits-loop-branch-preserved : goal.branches_exits-loop-branch-preserved
branches_exits-loop-branch-preserved t c =
    let below : c.loop-branch.branch-index < length c.args.branches.now = omega arith in
    let more = gathered_more (quick_block c.args.passing.now) c.args.branches.now c.loop-branch.branch-index c.branch-item.result below in
    let more_end = all_end_more c.args.passing.now c.args.branches.now c.loop-branch.branch-index c.branch-item.result below in
    let here = ap (quick_block c.args.passing.now) (sym c.branch-item.is) in
    let both = map-append way c.loop-branch.exits.items c.in_ok-here.here.items in
    rw add-one (
      cc (more, here, both, c.loop-branch.invariant.0, c.in_ok-here.ensures, c.deref.ensures.value, c.in_ok-extend_from_slice.ensures.items),
      cc (more_end, here, c.loop-branch.invariant.1, c.in_ok-here.ensures, c.deref-in-loop-branch.ensures.value, c.has_exit-ends.ensures, c.both-all_end.ensures),
    )

pub nodes_exits-returns-then-not-has_exit : goal.nodes_exits-returns-then-not-has_exit
nodes_exits-returns-then-not-has_exit t c =
    let below : c.loop-node.node-index < length c.args.nodes.now = omega arith in
    let step = list_step c.args.passing.now c.args.nodes.now c.loop-node.node-index c.node-item.result below in
    let here = ap (quick_node c.args.passing.now) (sym c.node-item.is) in
    let rest = quick_list c.args.passing.now (drop (c.loop-node.node-index + 1) c.args.nodes.now) in
    let inner = ways c.in_ok-here.here.items in
    let whole : quick_list c.args.passing.now c.args.nodes.now ≡ ways c.loop-node.exits.items ++ seq_ways inner rest = cc (step, here, c.loop-node.invariant, c.in_ok-here.ensures) in
    let no_end : has_end inner ≡ false = cc (c.has_exit.ensures, c.if-not-has_exit.true, c.deref-in-loop-node.ensures.value) in
    let added = rw c.deref.ensures.value at c.in_ok-add_outer.ensures in
    stops _ _ _ inner rest whole no_end added

pub nodes_exits-loop-node-preserved : goal.nodes_exits-loop-node-preserved
nodes_exits-loop-node-preserved t c =
    let below : c.loop-node.node-index < length c.args.nodes.now = omega arith in
    let step = list_step c.args.passing.now c.args.nodes.now c.loop-node.node-index c.node-item.result below in
    let here = ap (quick_node c.args.passing.now) (sym c.node-item.is) in
    let rest = quick_list c.args.passing.now (drop (c.loop-node.node-index + 1) c.args.nodes.now) in
    let inner = ways c.in_ok-here.here.items in
    let whole : quick_list c.args.passing.now c.args.nodes.now ≡ ways c.loop-node.exits.items ++ seq_ways inner rest = cc (step, here, c.loop-node.invariant, c.in_ok-here.ensures) in
    let ends : has_end inner ≡ true = cc (c.has_exit.ensures, c.if-not-has_exit.false, c.deref-in-loop-node.ensures.value) in
    let added = rw c.deref.ensures.value at c.in_ok-add_outer.ensures in
    goes_on _ _ _ inner rest whole ends added
