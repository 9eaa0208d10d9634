use Rattle.std.proofs.Common.{ap, ◌∙◌, ◌+◌, ◌*◌, List, [], ◌∷◌, ◌++◌}
use Rattle.ceu_asm.specs.declared.line.Line.{Line}
use Rattle.ceu_shape.specs.Words.{mark, goto, goto_if_false, begin_of, part}
use Rattle.ceu_shape.specs.Flow.{arms_lines}
use Rattle.ceu_low_flow.proofs.Adding.{with_lines, lined_both, arms_step}
use Rattle.ceu_low_flow.proofs.loops.lower_arms.Goals as goal

pub loop-arm-preserved : goal.loop-arm-preserved
loop-arm-preserved c =
    let labels = c.args.labels.now in
    let arm = c.loop-arm.arm in
    let over = c.args.first + arm in
    let s0 = c.loop-arm.sheet in
    let s1 = c.add_part.new.sheet in
    let s2 = c.add_all.new.sheet in
    let jumps : Line → List Line = λ (l : Line). goto_if_false over ∷ l ∷ mark over ∷ [] in
    let second = c.in_ok-add_all.ensures ∙ ap (λ (l : Line). with_lines s1 (s1.lines ++ jumps l)) (c.goto.ensures ∙ ap goto c.begin.ensures) in
    arms_step labels (with_lines c.args.sheet.now (c.args.sheet.now.lines ++ arms_lines labels 0 c.args.first c.args.arms)) s0 s2 c.args.first arm c.args.arms c.loop-arm-test.true c.loop-arm.invariant
    (lined_both s0 s1 s2 (part labels (2 * arm)) (jumps (goto (begin_of labels (2 * arm + 1)))) c.in_ok-add_part.ensures second)
