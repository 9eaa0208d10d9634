use Rattle.std.proofs.Common.{◌≡◌, ◌∙◌, ◌+◌, ◌≤◌, ℕ, length, get_or, ap, subst, arith}
use Rattle.ceu_tree.specs.Greatest.{total}
use Rattle.ceu_paths.specs.Cap.{cap}
use Rattle.ceu_bound.specs.declared.tables.Tables.{Tables}
use Rattle.ceu_bound.specs.Waking.{wake_cost}
use Rattle.ceu_bound.proofs.Rounds.{ordered_settled}
use Rattle.ceu_bound.proofs.settling.settle_in_order.Goals as goal

pub returns-clause-events : goal.returns-clause-events
returns-clause-events c = λ settled.
    let K = c.args.kernel.now in
    let T : Tables = record c.args.tables.now { events = c.fill_in_order.new.tables.events } in
    let count = ap length c.items-count.ensures in
    let few : length c.args.order.now ≤ length K.events = omega (arith, count) in
    let P : ℕ → Tables → Type 0 = λ e t. get_or c.fill_in_order.new.tables.events.items e 0 ≡ cap (1 + total (wake_cost t e) c.args.wakes.now) in
    ordered_settled K T c.requires.passing (length c.args.order.now) few c.in_ok-fill_in_order.ensures.len c.in_ok-fill_in_order.ensures.events
    (λ e h. subst (P e) c.in_ok-fill_in_order.ensures.same (c.in_ok-settled.ensures.each settled e (omega (arith, h, count))) ∙ ap (λ n. cap (1 + n)) (c.requires.wakes T e))
