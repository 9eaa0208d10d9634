use Rattle.std.proofs.Common.{ap, ◌∙◌, ℕ, [], ◌∷◌, ◌++◌}
use Rattle.ceu_shape.specs.Words.{mark}
use Rattle.ceu_shape.specs.Flow.{arm_ends}
use Rattle.ceu_low_flow.proofs.Adding.{with_lines, ends_step}
use Rattle.ceu_low_flow.proofs.loops.lower_ends.Goals as goal

pub loop-arm-preserved : goal.loop-arm-preserved
loop-arm-preserved c =
    let labels = c.args.labels.now in
    let s0 = c.loop-arm.sheet in
    ends_step labels (with_lines c.args.sheet.now (c.args.sheet.now.lines ++ arm_ends labels 0 c.args.arms)) s0 c.add.new.self c.loop-arm.arm c.args.arms c.loop-arm-test.true c.loop-arm.invariant
    (c.in_ok-add.ensures.ok ∙ ap (λ (l : ℕ). with_lines s0 (s0.lines ++ mark l ∷ [])) c.end.ensures)
