use Rattle.std.proofs.Common.{sym, subst, ◌+◌, arith}
use Rattle.ceu_tree.specs.declared.kernel.KLoop.{KLoop}
use Rattle.ceu_tree.specs.Weight.{exp_count}
use Rattle.ceu_shape.specs.Plans.{Plan}
use Rattle.ceu_shape.specs.Pieces.{Added}
use Rattle.ceu_shape.specs.Shape.{exp_part, turn_parts}
use Rattle.ceu_shape.proofs.Adding.{added_both}
use Rattle.ceu_low_expr.specs.Conditions.{HasRoom}
use Rattle.ceu_codegen.specs.Conditions.{planned}
use Rattle.ceu_codegen.specs.Rooms.{turns_room}
use Rattle.ceu_codegen.proofs.Small.{part_small}
use Rattle.ceu_codegen.proofs.Walks.{on_ok, room_after}
use Rattle.ceu_codegen.proofs.expressions.lower_turns.Goals as goal

pub lower_part-requires-in-Range-clause-room : goal.lower_part-requires-in-Range-clause-room
lower_part-requires-in-Range-clause-room g c =
    let p = g.P.Places.planned c.args.places.now in
    let plan : Plan = planned p c.args.gates.now in
    let a = exp_count c.in-Range.from in
    let b = exp_count c.in-Range.to in
    let room : HasRoom c.args.sheet.now (a + b) = subst (λ (kind : KLoop). HasRoom c.args.sheet.now (turns_room kind)) c.in-Range.is c.requires.room in
    room_after c.args.sheet.now c.lower_part.new.sheet (exp_part plan c.args.kernel.now c.args.begin c.in-Range.from) a b (a + b) (omega arith)
    (part_small plan c.args.kernel.now c.args.begin c.in-Range.from) c.in_ok-lower_part-in-Range.ensures room

pub returns-in_ok-lower_part-in-Range : goal.returns-in_ok-lower_part-in-Range
returns-in_ok-lower_part-in-Range g c =
    let p = g.P.Places.planned c.args.places.now in
    let plan : Plan = planned p c.args.gates.now in
    let K = c.args.kernel.now in
    let s0 = c.args.sheet.now in
    let s1 = c.lower_part.new.sheet in
    let s2 = c.lower_part-in-Range.new.sheet in
    let begin = c.args.begin in
    on_ok c.lower_part-in-Range.result (λ h. subst (λ (kind : KLoop). Added s0 s2 (turn_parts plan K begin kind)) (sym c.in-Range.is)
    (added_both s0 s1 s2 (exp_part plan K begin c.in-Range.from) (exp_part plan K (begin + 2) c.in-Range.to) c.in_ok-lower_part-in-Range.ensures h)) c.lower_part-in-Range.ensures
