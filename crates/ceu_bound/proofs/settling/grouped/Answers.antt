use Rattle.std.proofs.Common.{◌∙◌, ◌<◌, ◌+◌, length, take, ap, sym, add-one, arith}
use Rattle.ceu_tree.specs.Greatest.{total}
use Rattle.ceu_tree.proofs.TableLaws.{total_more}
use Rattle.ceu_bound.specs.Waking.{wake_cost}
use Rattle.ceu_bound.proofs.settling.grouped.Goals as goal

pub loop-wake-preserved : goal.loop-wake-preserved
loop-wake-preserved c =
    let below : c.loop-wake.wake-index < length c.args.wakes.now = omega arith in (
      c.in_ok-add_to_group.ensures.len ∙ c.loop-wake.invariant.0,
      λ T e h.
          let more = total_more (wake_cost T e) c.args.wakes.now c.loop-wake.wake-index c.wake-item.result below in
          let here = ap (wake_cost T e) (sym c.wake-item.is) in
          let within : e < length c.loop-wake.groups.items = omega (arith, h, c.loop-wake.invariant.0) in
          rw add-one (c.in_ok-add_to_group.ensures.each T e within ∙ ap (λ n. n + wake_cost T e c.wake-item.result) (c.loop-wake.invariant.1 T e h) ∙ sym (more ∙ ap (λ k. total (wake_cost T e) (take c.loop-wake.wake-index c.args.wakes.now) + k) here)),
    )
