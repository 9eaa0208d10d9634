use Rattle.std.proofs.Common.{◌<◌, length, add-one, arith}
use Rattle.std.proofs.lemmas.Grind.{common_steps}
use Rattle.ceu_tree.proofs.TableLaws.{greatest_of_more}
use Rattle.ceu_tree.proofs.tables.greatest.Goals as goal

pub loop-number-preserved : goal.loop-number-preserved
loop-number-preserved c =
    let below : c.loop-number.number-index < length c.args.table.now = omega arith in
    let more = greatest_of_more c.args.table.now c.loop-number.number-index 0 below in
    rw add-one (grind (arith, common_steps, more))
