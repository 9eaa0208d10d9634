use Rattle.std.proofs.Common.{◌≡◌, ◌∙◌, ◌<◌, ◌+◌, ℕ, if◌then◌else◌, ◌==◌, map, length, get_or, refl, ap, sym, subst, add-one, arith}
use Rattle.ceu_tree.specs.Costs.{emissions, instances_from}
use Rattle.ceu_paths.specs.Cap.{cap}
use Rattle.ceu_bound.specs.declared.tables.Tables.{Tables}
use Rattle.ceu_bound.specs.Parts.{costs, TablesAtMost}
use Rattle.ceu_bound.specs.Waking.{group_cost, woken_cost}
use Rattle.ceu_bound.proofs.Rounds.{filled_more, none_at_most}
use Rattle.ceu_bound.proofs.settling.fill_in_order.Goals as goal

pub loop-event-init : goal.loop-event-init
loop-event-init c = record {
  same = refl;
  len = c.requires.len;
  reached = none_at_most c.args.tables.now.part c.args.tables.now.events.items (emissions c.args.kernel.now 0) c.requires.none;
}

pub loop-event-preserved : goal.loop-event-preserved
loop-event-preserved c =
    let K = c.args.kernel.now in
    let T : Tables = record c.args.tables.now { events = c.loop-event.tables.events } in
    let inv = c.loop-event.invariant in
    let new = c.fill_event.new.tables in
    let event = get_or c.args.order.now c.loop-event.event-index 0 in
    let gs = c.args.groups.now in
    let cost_is : (e : ℕ) → e < length K.events → group_cost c.loop-event.tables e e gs ≡ woken_cost T K (map cap (instances_from K.body 0 K.codes)) e =
    λ e h. ap (λ (t : Tables). group_cost t e e gs) inv.same ∙ c.requires.wakes T e (omega (arith, h, c.requires.groups)) in
    let Q : ℕ → Type 0 = λ m. TablesAtMost c.args.tables.now.part (costs new.events.items) (emissions K m) in
    record {
      same = c.in_ok-fill_event.ensures.same ∙ ap (λ (t : Tables). record t { events = new.events }) inv.same;
      len = c.in_ok-fill_event.ensures.len ∙ inv.len;
      reached = subst Q (sym (add-one c.loop-event.event-index)) (filled_more K T c.requires.passing c.loop-event.event-index event new.events.items inv.len (c.in_ok-fill_event.ensures.len ∙ inv.len) inv.reached
          (λ e h. c.in_ok-fill_event.ensures.each e (omega (arith, h, c.requires.groups)) ∙ ap (λ n. if event == e then cap (1 + n) else get_or c.loop-event.tables.events.items e 0) (cost_is e h)));
    }
