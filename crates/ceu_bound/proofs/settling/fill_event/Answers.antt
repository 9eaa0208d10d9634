use Rattle.std.proofs.Common.{◌≡◌, ◌∙◌, ◌+◌, List, ap, sym, get_or, arith}
use Rattle.ceu_tree.specs.Greatest.{total}
use Rattle.ceu_paths.specs.Cap.{cap}
use Rattle.ceu_bound.specs.declared.emissions.Wake.{Wake}
use Rattle.ceu_bound.specs.declared.settling.Group.{Group}
use Rattle.ceu_bound.specs.Waking.{wake_cost}
use Rattle.ceu_bound.proofs.GroupLaws.{filled_one}
use Rattle.ceu_bound.proofs.settling.fill_event.Goals as goal

pub returns-in_ok-cost-clause-each : goal.returns-in_ok-cost-clause-each
returns-in_ok-cost-clause-each c = λ e h.
    let g = c.index-groups-at.result in
    let made : c.in_ok-cost.cost ≡ cap (1 + total (wake_cost c.args.tables.now c.args.event) g.wakes.items) = c.in_ok-cost.ensures ∙ ap (λ (ws : List Wake). cap (1 + total (wake_cost c.args.tables.now c.args.event) ws)) c.deref.ensures.value ∙ ap (λ (x : Group). cap (1 + total (wake_cost c.args.tables.now c.args.event) x.wakes.items)) (sym c.index-groups-at.is) in
    filled_one c.args.tables.now e c.args.event c.in_ok-cost.cost (get_or c.args.tables.now.events.items e 0) (get_or c.put_at.new.costs.items e 0) c.args.groups.now g (omega arith) c.index-groups-at.is made (c.put_at.ensures.each e (omega (arith, h, c.requires)))
