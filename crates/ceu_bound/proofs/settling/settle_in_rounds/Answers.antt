use Rattle.std.proofs.Common.{◌≡◌, ◌∙◌, ◌+◌, ◌-◌, List, ℕ, refl, length, get_or, ap, sym, subst, add-one, arith}
use Rattle.ceu_tree.specs.Greatest.{total}
use Rattle.ceu_tree.specs.Costs.{emissions}
use Rattle.ceu_paths.specs.Cap.{cap}
use Rattle.ceu_bound.specs.declared.tables.Tables.{Tables}
use Rattle.ceu_bound.specs.Parts.{costs, SameTables}
use Rattle.ceu_bound.specs.Waking.{wake_cost}
use Rattle.ceu_bound.proofs.Rounds.{round_same, settled, none_settled}
use Rattle.ceu_bound.proofs.settling.settle_in_rounds.Goals as goal

pub loop-done-init : goal.loop-done-init
loop-done-init c = (refl, none_settled c.args.kernel.now c.args.tables.now c.requires.empty)

pub loop-done-preserved : goal.loop-done-preserved
loop-done-preserved c =
    let K = c.args.kernel.now in
    let T : Tables = record c.args.tables.now { events = c.loop-done.tables.events } in
    let count = ap length c.items-count.ensures in
    let P : ℕ → Tables → Type 0 = λ e t. get_or c.in_ok-costs.costs.items e 0 ≡ cap (1 + total (wake_cost t e) c.args.wakes.now) in
    let Q : ℕ → Type 0 = λ m. SameTables c.args.tables.now.part (costs c.in_ok-costs.costs.items) (emissions K m) in (
      ap (λ (t : Tables). record t { events = c.in_ok-costs.costs }) c.loop-done.invariant.0,
      subst Q (sym (add-one c.loop-done.done)) (round_same K T c.requires.passing c.loop-done.done c.in_ok-costs.costs.items c.loop-done.invariant.1 (c.in_ok-costs.ensures.len ∙ count)
          (λ e h. subst (P e) c.loop-done.invariant.0 (c.in_ok-costs.ensures.each e (omega (arith, h, count))) ∙ ap (λ n. cap (1 + n)) (c.requires.wakes T e))),
    )

pub returns-then-same_costs-clause-events : goal.returns-then-same_costs-clause-events
returns-then-same_costs-clause-events c =
    let K = c.args.kernel.now in
    let T : Tables = record c.args.tables.now { events = c.loop-done.tables.events } in
    let count = ap length c.items-count.ensures in
    let equal : c.in_ok-costs.costs.items ≡ c.loop-done.tables.events.items = cc (c.same_costs.ensures c.if-same_costs.true, c.deref.ensures.value, c.deref-in-loop-done.ensures.value) in
    let P : ℕ → Tables → Type 0 = λ e t. get_or c.in_ok-costs.costs.items e 0 ≡ cap (1 + total (wake_cost t e) c.args.wakes.now) in
    let R : ℕ → List ℕ → Type 0 = λ e ns. get_or ns e 0 ≡ cap (1 + total (wake_cost T e) c.args.wakes.now) in
    let Q : ℕ → Type 0 = λ m. SameTables c.args.tables.now.part (costs c.loop-done.tables.events.items) (emissions K m) in
    let rest : length K.events - c.loop-done.done + c.loop-done.done ≡ length K.events = omega (arith, count) in
    subst Q rest (settled K T c.requires.passing c.loop-done.done (length K.events - c.loop-done.done) (sym (ap length equal) ∙ c.in_ok-costs.ensures.len ∙ count)
    (λ e h. subst (R e) equal (subst (P e) c.loop-done.invariant.0 (c.in_ok-costs.ensures.each e (omega (arith, h, count)))) ∙ ap (λ n. cap (1 + n)) (c.requires.wakes T e))
    c.loop-done.invariant.1)
