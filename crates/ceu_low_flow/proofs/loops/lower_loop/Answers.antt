use Rattle.std.proofs.Common.{sym, ap, subst, ◌∙◌, ℕ, List, ◌++◌}
use Rattle.ceu_tree.specs.declared.kernel.KLoop.{KLoop}
use Rattle.ceu_asm.specs.declared.line.Line.{Line}
use Rattle.ceu_shape.specs.Pieces.{Added}
use Rattle.ceu_shape.specs.Words.{end_of}
use Rattle.ceu_shape.specs.Flow.{times_lines, loop_of, turn_stops}
use Rattle.ceu_shape.proofs.Adding.{added_taking, added_placed, added_placed_stopping}
use Rattle.ceu_low_flow.proofs.Adding.{on_ok, with_lines}
use Rattle.ceu_low_flow.proofs.loops.lower_loop.Goals as goal

pub returns-in_ok-number-in-Times : goal.returns-in_ok-number-in-Times
returns-in_ok-number-in-Times g c =
    let offset = (g.P.Places.planned c.args.places.now).offset in
    let labels = c.args.labels.now in
    let old = c.args.sheet.now in
    let m0 = c.label-head.new.self in
    let m1 = c.place.new.self in
    let new = c.lower_times.new.sheet in
    let number = c.in_ok-number-in-Times.number in
    let lines : ℕ → ℕ → List Line = λ (head position : ℕ). times_lines offset c.args.yields c.in-Times.slot c.in-Times.limit position labels head in
    on_ok c.lower_times.result (λ h. added_taking old m0 new 1 (loop_of offset c.args.yields c.args.node c.args.place c.args.kind.now labels) c.label-head.ensures.given
    (subst (λ (kind : KLoop). Added m0 new (loop_of offset c.args.yields c.args.node c.args.place kind labels old.labels)) (sym c.in-Times.is)
    (added_placed_stopping m0 new (turn_stops c.args.yields c.args.node (end_of labels 0)) c.args.place (λ position. lines old.labels position)
    (added_placed m0 m1 new c.args.place (λ position. lines old.labels position) number c.in_ok-number-in-Times.ensures.number c.in_ok-number-in-Times.ensures.ok
    (h ∙ ap (λ (k : ℕ). with_lines m1 (m1.lines ++ lines k number)) c.label-head.ensures.fresh))))) c.lower_times.ensures
