use Rattle.std.proofs.Common.{◌≡◌, ◌∙◌, ◌<◌, ◌+◌, ◌-◌, ◌*◌, length, ap, sym, add-one, arith}
use Rattle.ceu_paths.specs.Cap.{cap}
use Rattle.ceu_tree.specs.Paths.{has_end, quick_node}
use Rattle.ceu_tree.specs.Costs.{loop_times, paced}
use Rattle.ceu_tree.proofs.TableLaws.{total_more}
use Rattle.ceu_bound.specs.Measured.{unless_paced, enter_stmt, enter_block, enter_list, enter_branch, stay_stmt, stay_block, stay_list}
use Rattle.ceu_bound.proofs.CostLaws.{enter_of_loop, stay_of_loop, enter_none, stay_none}
use Rattle.ceu_bound.proofs.MeasureLaws.{nodes_enter, nodes_stay, drop_whole, first_branch, looped_enter, looped_stay}
use Rattle.ceu_bound.proofs.measures.+costing.Goals as goal

pub branches_measure-loop-branch-preserved : goal.branches_measure-loop-branch-preserved
branches_measure-loop-branch-preserved t c =
    let below : c.loop-branch.branch-index < length c.args.branches.now = omega arith in
    let more_enter = total_more (enter_branch c.args.tables.now) c.args.branches.now c.loop-branch.branch-index c.branch-item.result below in
    let more_stay = total_more (stay_block c.args.tables.now) c.args.branches.now c.loop-branch.branch-index c.branch-item.result below in
    let here_enter = ap (enter_block c.args.tables.now) (sym c.branch-item.is) in
    let here_stay = ap (stay_block c.args.tables.now) (sym c.branch-item.is) in
    rw add-one (
      omega (arith, more_enter, here_enter, c.loop-branch.invariant.0, c.in_ok-here.ensures.enter, c.turn-own.ensures, c.plus-enter.ensures, c.plus.ensures, c.cost_of-sum-in-loop-branch.ensures.enter),
      omega (arith, more_stay, here_stay, c.loop-branch.invariant.1, c.in_ok-here.ensures.stay, c.plus-in-loop-branch.ensures, c.cost_of-sum-in-loop-branch.ensures.stay),
    )

pub nodes_measure-loop-left-init : goal.nodes_measure-loop-left-init
nodes_measure-loop-left-init t c =
    let enter = ap (enter_list c.args.tables.now) (drop_whole c.args.nodes.now) ∙ enter_none c.args.tables.now in
    let stay = ap (stay_list c.args.tables.now) (drop_whole c.args.nodes.now) ∙ stay_none c.args.tables.now in
    (omega (arith, enter, c.cost_of-cost.ensures.enter), omega (arith, stay, c.cost_of-cost.ensures.stay), omega arith)

pub nodes_measure-loop-left-preserved : goal.nodes_measure-loop-left-preserved
nodes_measure-loop-left-preserved t c =
    let above : 0 < c.loop-left.left = omega (arith, c.loop-left-test.true) in
    let below : c.loop-left.left - 1 < length c.args.nodes.now = omega (arith, above, c.loop-left.invariant.2) in
    let next : c.loop-left.left - 1 + 1 ≡ c.loop-left.left = omega (arith, above) in
    let ends : c.has_exit-ends.result ≡ has_end (quick_node c.args.tables.now.passing.items c.index-nodes-left.result) = cc (c.has_exit-ends.ensures, c.deref-in-loop-left.ensures.value, c.in_ok-exits.ensures, c.deref.ensures.value) in (
      nodes_enter c.args.tables.now c.args.nodes.now (c.loop-left.left - 1) c.loop-left.left c.index-nodes-left.result c.has_exit-ends.result c.in_ok-here.here.enter c.loop-left.cost.enter c.before-cost.result.enter
          below next c.index-nodes-left.is ends c.in_ok-here.ensures.enter c.loop-left.invariant.0 c.before-cost.ensures.enter,
      nodes_stay c.args.tables.now c.args.nodes.now (c.loop-left.left - 1) c.loop-left.left c.index-nodes-left.result c.stands_waiting.result c.in_ok-here.here.stay c.loop-left.cost.enter c.loop-left.cost.stay c.before-cost.result.stay
          below next c.index-nodes-left.is c.stands_waiting.ensures c.in_ok-here.ensures.stay c.loop-left.invariant.0 c.loop-left.invariant.1 c.before-cost.ensures.stay,
      omega (arith, c.loop-left.invariant.2),
    )

pub par_measure-returns-in_ok-beside-in-len1-up-clause-enter : goal.par_measure-returns-in_ok-beside-in-len1-up-clause-enter
par_measure-returns-in_ok-beside-in-len1-up-clause-enter t c =
    let some : 0 < length c.args.branches.now = omega (arith, c.in-len1-up.len_at_least) in
    let split = first_branch c.args.tables.now c.args.branches.now c.first-item.result some in
    let first = ap (enter_block c.args.tables.now) (sym c.first-item.is) in
    omega (arith, split, first, c.in_ok-here-in-len1-up.ensures.enter, c.in_ok-beside-in-len1-up.ensures.enter, c.plus-enter.ensures, c.cost_of-in-len1-up.ensures.enter)

pub stmt_measure-returns-in_ok-times-in-Loop-clause-enter : goal.stmt_measure-returns-in_ok-times-in-Loop-clause-enter
stmt_measure-returns-in_ok-times-in-Loop-clause-enter t c =
    let times : c.in_ok-times-in-Loop.times ≡ cap (loop_times c.args.tables.now.passing.items c.args.node c.in-Loop.kind c.in-Loop.body) = cc (c.in_ok-times-in-Loop.ensures, c.deref-in-Loop.ensures.value) in
    c.looped.ensures.enter ∙
    ap (λ p. cap (unless_paced p (c.in_ok-times-in-Loop.times * c.in_ok-inner-in-Loop.inner.enter))) c.paced.ensures ∙
    looped_enter (paced c.in-Loop.kind c.in-Loop.body) _ _ _ _ times c.in_ok-inner-in-Loop.ensures.enter ∙
    ap cap (sym (enter_of_loop c.args.tables.now c.args.node c.in-Loop.kind c.in-Loop.body)) ∙
    ap (λ s. cap (enter_stmt c.args.tables.now c.args.node s)) (sym c.in-Loop.is)

pub stmt_measure-returns-in_ok-times-in-Loop-clause-stay : goal.stmt_measure-returns-in_ok-times-in-Loop-clause-stay
stmt_measure-returns-in_ok-times-in-Loop-clause-stay t c =
    let times : c.in_ok-times-in-Loop.times ≡ cap (loop_times c.args.tables.now.passing.items c.args.node c.in-Loop.kind c.in-Loop.body) = cc (c.in_ok-times-in-Loop.ensures, c.deref-in-Loop.ensures.value) in
    c.looped.ensures.stay ∙
    ap (λ p. cap (unless_paced p (c.in_ok-inner-in-Loop.inner.stay + c.in_ok-times-in-Loop.times * c.in_ok-inner-in-Loop.inner.enter))) c.paced.ensures ∙
    looped_stay (paced c.in-Loop.kind c.in-Loop.body) _ _ _ _ _ _ times c.in_ok-inner-in-Loop.ensures.enter c.in_ok-inner-in-Loop.ensures.stay ∙
    ap cap (sym (stay_of_loop c.args.tables.now c.args.node c.in-Loop.kind c.in-Loop.body)) ∙
    ap (λ s. cap (stay_stmt c.args.tables.now c.args.node s)) (sym c.in-Loop.is)
