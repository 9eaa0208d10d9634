use Rattle.std.proofs.Common.{◌<◌, length, add-one, arith}
use Rattle.std.proofs.lemmas.Grind.{common_steps}
use Rattle.ceu_expand.specs.Expressions as spec
use Rattle.ceu_expand.proofs.Lists.{each_more, gathered_more}
use Rattle.ceu_expand.proofs.draft.Draft.exps.Goals as goal

pub loop-exp-preserved : goal.loop-exp-preserved
loop-exp-preserved c =
    let below : c.loop-exp.exp-index < length c.args.exps.now = omega arith in
    let more = gathered_more (spec.exp_written c.args.scopes.now c.args.types.now) spec.exp_passed c.args.exps.now c.args.self.now c.loop-exp.exp-index c.exp-item.result below in
    let step = each_more spec.exp_passed c.args.exps.now c.args.self.now c.loop-exp.exp-index c.exp-item.result below in
    record { made = rw add-one (grind (arith, common_steps, more)); self = rw add-one (grind (arith, common_steps, step)) }
