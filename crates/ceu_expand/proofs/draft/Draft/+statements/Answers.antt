use Rattle.std.proofs.Common.{◌<◌, length, add-one, arith}
use Rattle.std.proofs.lemmas.Grind.{common_steps}
use Rattle.ceu_expand.specs.Expansion as spec
use Rattle.ceu_expand.proofs.Lists.{each_more, gathered_more}
use Rattle.ceu_expand.proofs.draft.Draft.+statements.Goals as goal

pub arms-loop-arm-preserved : goal.arms-loop-arm-preserved
arms-loop-arm-preserved t c =
    let below : c.loop-arm.arm-index < length c.args.arms.now = omega arith in
    let more = gathered_more (spec.arm_written c.args.scopes.now c.args.types.now c.args.around) (spec.arm_passed c.args.scopes.now c.args.types.now c.args.around) c.args.arms.now c.args.self.now c.loop-arm.arm-index c.arm-item.result below in
    let step = each_more (spec.arm_passed c.args.scopes.now c.args.types.now c.args.around) c.args.arms.now c.args.self.now c.loop-arm.arm-index c.arm-item.result below in
    record { made = rw add-one (grind (arith, common_steps, more)); self = rw add-one (grind (arith, common_steps, step)) }

pub blocks-loop-block-preserved : goal.blocks-loop-block-preserved
blocks-loop-block-preserved t c =
    let below : c.loop-block.block-index < length c.args.blocks.now = omega arith in
    let more = gathered_more (spec.block_written c.args.scopes.now c.args.types.now c.args.around) (spec.block_passed c.args.scopes.now c.args.types.now c.args.around) c.args.blocks.now c.args.self.now c.loop-block.block-index c.block-item.result below in
    let step = each_more (spec.block_passed c.args.scopes.now c.args.types.now c.args.around) c.args.blocks.now c.args.self.now c.loop-block.block-index c.block-item.result below in
    record { made = rw add-one (grind (arith, common_steps, more)); self = rw add-one (grind (arith, common_steps, step)) }
