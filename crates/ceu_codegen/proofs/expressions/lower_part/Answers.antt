use Rattle.std.proofs.Common.{ap, ◌∙◌, ◌+◌, List, [], ◌∷◌, ◌++◌}
use Rattle.ceu_tree.specs.Weight.{exp_count}
use Rattle.ceu_asm.specs.declared.line.Line.{Line}
use Rattle.ceu_shape.specs.Pieces.{Draft, both, text}
use Rattle.ceu_shape.specs.Words.{mark, goto}
use Rattle.ceu_shape.specs.Expressions.{exp_draft}
use Rattle.ceu_shape.proofs.Adding.{added_text, added_both}
use Rattle.ceu_codegen.proofs.Walks.{on_ok, with_lines, room_lined}
use Rattle.ceu_codegen.proofs.expressions.lower_part.Goals as goal

pub lower_exp-requires-clause-room : goal.lower_exp-requires-clause-room
lower_exp-requires-clause-room g c = room_lined c.args.sheet.now c.add.new.self _ (exp_count c.args.exp.now) c.in_ok-add.ensures.ok c.requires.room

pub returns : goal.returns
returns g c =
    let p = g.P.Places.planned c.args.places.now in
    let s0 = c.args.sheet.now in
    let s1 = c.add.new.self in
    let s2 = c.lower_exp.new.sheet in
    let s3 = c.add-2.new.self in
    let own : Draft = exp_draft p.offset c.args.exp.now in
    let first : List Line = mark c.args.begin ∷ [] in
    let last : List Line = goto (c.args.begin + 1) ∷ [] in
    on_ok c.add-2.result (λ e. added_both s0 s1 s3 (text first) (both own (text last)) (added_text s0 s1 first c.in_ok-add.ensures.ok)
    (added_both s1 s2 s3 own (text last) c.in_ok-lower_exp.ensures (added_text s2 s3 last (e ∙ ap (λ (l : Line). with_lines s2 (s2.lines ++ l ∷ [])) c.goto.ensures)))) c.add-2.ensures.ok
