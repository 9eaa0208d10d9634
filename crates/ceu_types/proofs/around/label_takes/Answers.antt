use Rattle.std.proofs.Common.{◌≡◌, ◌<◌, length, get_or, ap, sym, add-one, arith}
use Rattle.std.proofs.lemmas.Grind.{common_steps}
use Rattle.ceu_types.specs.Around.{takes_if_named}
use Rattle.ceu_types.proofs.Labels.{takes_more}
use Rattle.ceu_types.proofs.around.label_takes.Goals as goal

pub loop-label-preserved : goal.loop-label-preserved
loop-label-preserved c =
    let below : c.loop-label.label-index < length c.args.labels.now = omega arith in
    let more = takes_more c.args.labels.now c.args.name.now c.loop-label.label-index c.label-item.result below in
    let here : takes_if_named (get_or c.args.labels.now c.loop-label.label-index c.label-item.result) c.args.name.now ≡ takes_if_named c.label-item.result c.args.name.now
    = ap (λ l. takes_if_named l c.args.name.now) (sym c.label-item.is) in
    rw add-one (grind (arith, common_steps, more, here))
