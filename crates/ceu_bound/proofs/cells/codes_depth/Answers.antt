use Rattle.std.proofs.Common.{◌<◌, length, ap, sym, add-one, arith}
use Rattle.std.proofs.lemmas.Grind.{common_steps}
use Rattle.ceu_tree.specs.Depth.{block_depth}
use Rattle.ceu_tree.specs.declared.kernel.KCode.{KCode}
use Rattle.ceu_bound.proofs.CellLaws.{codes_more}
use Rattle.ceu_bound.proofs.cells.codes_depth.Goals as goal

pub loop-code-preserved : goal.loop-code-preserved
loop-code-preserved c =
    let below : c.loop-code.code-index < length c.args.codes.now = omega arith in
    let more = codes_more c.args.codes.now c.loop-code.code-index c.code-item.result below in
    let here = ap (λ (k : KCode). block_depth k.body) (sym c.code-item.is) in
    rw add-one (grind (arith, common_steps, more, here, c.loop-code.invariant, c.block_depth.ensures, c.max-most.ensures))
