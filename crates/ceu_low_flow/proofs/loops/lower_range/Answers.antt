use Rattle.std.proofs.Common.{ap, ◌∙◌, ℕ, ◌+◌, ◌-◌, List, [], ◌∷◌, ◌++◌}
use Rattle.ceu_code.specs.declared.instr.Instr.TheVariants as instr
use Rattle.ceu_asm.specs.declared.line.Line.{Line}
use Rattle.ceu_asm.specs.declared.line.Line.TheVariants as line
use Rattle.ceu_shape.specs.Words.{mark, plain, part}
use Rattle.ceu_shape.specs.Flow.{one_if, turn_lines}
use Rattle.ceu_low_flow.proofs.Adding.{on_ok, with_lines, lined_both}
use Rattle.ceu_low_flow.proofs.loops.lower_range.Goals as goal

pub returns : goal.returns
returns g c =
    let offset = (g.P.Places.planned c.args.places.now).offset in
    let labels = c.args.labels.now in
    let s0 = c.args.sheet.now in
    let s1 = c.add.new.self in
    let s2 = c.add_part.new.sheet in
    let s3 = c.add-2.new.self in
    let s4 = c.add_part-2.new.sheet in
    let s5 = c.add_all.new.sheet in
    let s6 = c.lower_turn.new.sheet in
    let first : ℕ → ℕ → List Line = λ (at d : ℕ). plain (instr.RangeBound at (1 + d)) ∷ [] in
    let last : ℕ → ℕ → ℕ → ℕ → List Line = λ (end d next variable : ℕ). plain (instr.RangeBound end (1 - d)) ∷ mark c.args.head ∷ line.Jump (instr.RangeNext next variable 0) labels.next ∷ [] in
    let bound = c.in_ok-add-2.ensures.ok ∙ ap (λ (a : ℕ). with_lines s2 (s2.lines ++ first a c.one_if.result)) c.offset-next.ensures
    ∙ ap (λ (d : ℕ). with_lines s2 (s2.lines ++ first (offset c.args.slots.1) d)) c.one_if.ensures.value in
    let start = c.in_ok-add_all.ensures ∙ ap (λ (a : ℕ). with_lines s4 (s4.lines ++ last a c.one_if-2.result c.offset-next.result c.offset-variable.result)) c.offset-last.ensures
    ∙ ap (λ (d : ℕ). with_lines s4 (s4.lines ++ last (offset c.args.slots.2) d c.offset-next.result c.offset-variable.result)) c.one_if-2.ensures.value
    ∙ ap (λ (a : ℕ). with_lines s4 (s4.lines ++ last (offset c.args.slots.2) (one_if c.args.opens.1) a c.offset-variable.result)) c.offset-next.ensures
    ∙ ap (λ (a : ℕ). with_lines s4 (s4.lines ++ last (offset c.args.slots.2) (one_if c.args.opens.1) (offset c.args.slots.1) a)) c.offset-variable.ensures in
    let turn = turn_lines c.args.yields 2 labels c.args.head in
    let b = first (offset c.args.slots.1) (one_if c.args.opens.0) in
    let l = last (offset c.args.slots.2) (one_if c.args.opens.1) (offset c.args.slots.1) (offset c.args.slots.0) in
    on_ok c.lower_turn.result (λ h. lined_both s0 s1 s6 (mark labels.own ∷ []) (part labels 0 ++ (b ++ (part labels 1 ++ (l ++ turn)))) c.in_ok-add.ensures.ok
    (lined_both s1 s2 s6 (part labels 0) (b ++ (part labels 1 ++ (l ++ turn))) c.in_ok-add_part.ensures
    (lined_both s2 s3 s6 b (part labels 1 ++ (l ++ turn)) bound
    (lined_both s3 s4 s6 (part labels 1) (l ++ turn) c.in_ok-add_part-2.ensures
    (lined_both s4 s5 s6 l turn start h))))) c.lower_turn.ensures
