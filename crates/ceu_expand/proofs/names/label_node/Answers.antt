use Rattle.std.proofs.Common.{◌≡◌, ◌<◌, length, take, get_or, ap, sym, add-one, arith}
use Rattle.std.proofs.lemmas.Grind.{common_steps}
use Rattle.ceu_expand.specs.Uses.{node_or, label_node}
use Rattle.ceu_expand.proofs.Labels.{node_more}
use Rattle.ceu_expand.proofs.names.label_node.Goals as goal

pub loop-label-preserved : goal.loop-label-preserved
loop-label-preserved c =
    let below : c.loop-label.label-index < length c.args.labels.now = omega arith in
    let more = node_more c.args.labels.now c.args.name.now 0 c.loop-label.label-index c.label-item.result below in
    let before = label_node (take c.loop-label.label-index c.args.labels.now) c.args.name.now 0 in
    let here : node_or (get_or c.args.labels.now c.loop-label.label-index c.label-item.result) c.args.name.now before ≡ node_or c.label-item.result c.args.name.now before
    = ap (λ l. node_or l c.args.name.now before) (sym c.label-item.is) in
    rw add-one (grind (arith, common_steps, more, here))
