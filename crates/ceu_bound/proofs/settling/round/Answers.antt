use Rattle.std.proofs.Common.{◌∙◌, ◌<◌, ◌+◌, length, take, ap, sym, add-one, arith}
use Rattle.ceu_tree.specs.Greatest.{total}
use Rattle.ceu_tree.proofs.TableLaws.{total_more}
use Rattle.ceu_paths.specs.Cap.{cap}
use Rattle.ceu_bound.specs.Waking as spec
use Rattle.ceu_bound.proofs.WakeLaws.{round_step}
use Rattle.ceu_bound.proofs.settling.round.Goals as goal

pub loop-wake-preserved : goal.loop-wake-preserved
loop-wake-preserved c =
    let below : c.loop-wake.wake-index < length c.args.wakes.now = omega arith in (
      omega (arith, c.loop-wake.invariant.0, c.add_at.ensures.len),
      λ e h.
          let more = total_more (spec.wake_cost c.args.tables.now e) c.args.wakes.now c.loop-wake.wake-index c.wake-item.result below in
          let here = ap (spec.wake_cost c.args.tables.now e) (sym c.wake-item.is) in
          let within : e < length c.loop-wake.costs.items = omega (arith, h, c.loop-wake.invariant.0) in
          rw add-one (round_step _ _ _ _ _ _ (c.add_at.ensures.each e within) (c.loop-wake.invariant.1 e h) c.in_ok-cost.ensures ∙ ap (λ k. cap (1 + k)) (sym (more ∙ ap (λ k. total (spec.wake_cost c.args.tables.now e) (take c.loop-wake.wake-index c.args.wakes.now) + k) here))),
    )
