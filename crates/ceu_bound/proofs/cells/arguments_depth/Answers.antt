use Rattle.std.proofs.Common.{◌≡◌, ◌<◌, length, get_or, ap, sym, add-one, arith}
use Rattle.std.proofs.lemmas.Grind.{common_steps}
use Rattle.ceu_tree.specs.Depth.{exp_depth}
use Rattle.ceu_tree.proofs.Depths.{arguments_next}
use Rattle.ceu_bound.proofs.cells.arguments_depth.Goals as goal

pub loop-exp-preserved : goal.loop-exp-preserved
loop-exp-preserved c =
    let below : c.loop-exp.exp-index < length c.args.exps.now = omega arith in
    let more = arguments_next c.args.exps.now c.loop-exp.exp-index c.exp-item.result below in
    let here : exp_depth (get_or c.args.exps.now c.loop-exp.exp-index c.exp-item.result) ≡ exp_depth c.exp-item.result = ap exp_depth (sym c.exp-item.is) in
    rw add-one (grind (arith, common_steps, more, here, c.loop-exp.invariant.0, c.loop-exp.invariant.1))
