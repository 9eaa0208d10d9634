use Rattle.std.proofs.Common.{◌∙◌, ◌<◌, ◌+◌, length, take, ap, sym, add-one, arith}
use Rattle.ceu_tree.specs.Greatest.{total}
use Rattle.ceu_tree.proofs.TableLaws.{total_more}
use Rattle.ceu_paths.specs.Cap.{cap}
use Rattle.ceu_bound.specs.Waking.{wake_cost}
use Rattle.ceu_bound.proofs.settling.event_measure.Goals as goal

pub loop-wake-preserved : goal.loop-wake-preserved
loop-wake-preserved c =
    let below : c.loop-wake.wake-index < length c.args.wakes.now = omega arith in
    let f = wake_cost c.args.tables.now c.args.event in
    let x = total f (take c.loop-wake.wake-index c.args.wakes.now) in
    let more = total_more f c.args.wakes.now c.loop-wake.wake-index c.wake-item.result below in
    rw add-one (c.in_ok-cost.ensures x c.loop-wake.invariant ∙ ap (λ k. cap (1 + k)) (sym (more ∙ ap (λ k. x + k) (ap f (sym c.wake-item.is)))))
