use Rattle.std.proofs.Common.{◌∷◌, ◌++◌, [], sym, ◌∙◌}
use Rattle.std.proofs.lemmas.List.{append-nil}
use Rattle.ceu_base.specs.declared.kinds.Mark.TheVariants.{Resume}
use Rattle.ceu_isa.specs.Turns.{turned}
use Rattle.ceu_isa.specs.Reactions.{resumed}
use Rattle.ceu_machine.specs.Noting.{Stopped}
use Rattle.ceu_machine.specs.States.{plain}
use Rattle.ceu_machine.specs.Turning.{marks_in}
use Rattle.ceu_machine.proofs.Turns.{on_err}
use Rattle.ceu_react.proofs.RoundParts.{resumed_marks, outcome_resumed}
use Rattle.ceu_react.proofs.Sinks.{stopped_first, stopped_in, noted_in}
use Rattle.ceu_react.proofs.rounds.resume.Goals as goal

pub returns-in_err-note-clause-stopped : goal.returns-in_err-note-clause-stopped
returns-in_err-note-clause-stopped g c =
    let all = marks_in (resumed c.args.image.now c.args.next.gate c.args.next.level (plain c.args.mem.now.bytes)) in
    let parts = resumed_marks c.args.image.now c.args.next.gate c.args.next.level c.args.mem.now.bytes c.requires.turn.over in
    on_err c.from_residual.result (Stopped g.W.MarkSink.notes g.W.MarkSink.stops all c.args.out.now c.note.new.out)
    (stopped_first g.W.MarkSink.notes g.W.MarkSink.stops all (Resume c.args.next.level ∷ []) (marks_in (turned c.args.image.now c.args.next.gate (plain c.args.mem.now.bytes))) c.args.out.now c.note.new.out parts c.in_err-note.ensures.stopped)

pub returns-in_err-turned-clause-stopped : goal.returns-in_err-turned-clause-stopped
returns-in_err-turned-clause-stopped g c =
    let all = marks_in (resumed c.args.image.now c.args.next.gate c.args.next.level (plain c.args.mem.now.bytes)) in
    let later = marks_in (turned c.args.image.now c.args.next.gate (plain c.args.mem.now.bytes)) in
    let parts = resumed_marks c.args.image.now c.args.next.gate c.args.next.level c.args.mem.now.bytes c.requires.turn.over in
    on_err c.from_residual-in_err-turned.result (Stopped g.W.MarkSink.notes g.W.MarkSink.stops all c.args.out.now c.turn.new.out)
    (stopped_in g.W.MarkSink.notes g.W.MarkSink.stops all (Resume c.args.next.level ∷ []) later [] c.args.out.now c.note.new.out c.turn.new.out (parts ∙ sym (append-nil ((Resume c.args.next.level ∷ []) ++ later))) c.in_ok-note.ensures.noted c.in_err-turned.ensures.stopped)

pub returns-clause-outcome : goal.returns-clause-outcome
returns-clause-outcome g c = outcome_resumed c.args.image.now c.args.next.gate c.args.next.level c.args.mem.now.bytes c.turn.new.mem.bytes c.in_ok-turned.turned c.in_ok-turned.ensures.outcome

pub returns-clause-noted : goal.returns-clause-noted
returns-clause-noted g c =
    let all = marks_in (resumed c.args.image.now c.args.next.gate c.args.next.level (plain c.args.mem.now.bytes)) in
    noted_in g.W.MarkSink.notes all (Resume c.args.next.level ∷ []) (marks_in (turned c.args.image.now c.args.next.gate (plain c.args.mem.now.bytes))) c.args.out.now c.note.new.out c.turn.new.out
    (resumed_marks c.args.image.now c.args.next.gate c.args.next.level c.args.mem.now.bytes c.requires.turn.over) c.in_ok-note.ensures.noted c.in_ok-turned.ensures.noted
