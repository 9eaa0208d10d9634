use Rattle.std.proofs.Common.{◌++◌, [], List, Option, sym, subst, ◌∙◌}
use Rattle.std.proofs.lemmas.List.{append-nil}
use Rattle.ceu_base.specs.declared.kinds.Mark.{Mark}
use Rattle.ceu_isa.specs.Reactions.{next, resumed}
use Rattle.ceu_machine.specs.Noting.{Noted, Stopped}
use Rattle.ceu_machine.specs.States.{plain}
use Rattle.ceu_machine.specs.Turning.{marks_in}
use Rattle.ceu_machine.proofs.Turns.{on_err}
use Rattle.ceu_react.specs.declared.after.After.{After}
use Rattle.ceu_react.specs.declared.closing.Resumption.{Resumption}
use Rattle.ceu_react.specs.Coming.{NextIs, RoundIs}
use Rattle.ceu_react.specs.Rounds as rounds
use Rattle.ceu_react.specs.Rounds.{marks_of_round, marks_of_next}
use Rattle.ceu_react.proofs.RoundParts.{clear_round, rests, rest_marks, over_turn, turn_round, marks_round, first_marks}
use Rattle.ceu_react.proofs.Sinks.{stopped_first, stopped_in, noted_in}
use Rattle.ceu_react.proofs.rounds.round.Goals as goal

pub next-requires-clause-clear : goal.next-requires-clause-clear
next-requires-clause-clear g c = clear_round c.args.image.now (plain c.args.mem.now.bytes) c.requires.right

pub returns-in_err-next-clause-stopped : goal.returns-in_err-next-clause-stopped
returns-in_err-next-clause-stopped g c =
    let all = marks_of_round (rounds.round c.args.image.now (plain c.args.mem.now.bytes)) in
    let f = first_marks c.args.image.now (plain c.args.mem.now.bytes) c.requires.right in
    on_err c.from_residual.result (Stopped g.W.MarkSink.notes g.W.MarkSink.stops all c.args.out.now c.next.new.out)
    (stopped_first g.W.MarkSink.notes g.W.MarkSink.stops all (marks_of_next (next c.args.image.now (plain c.args.mem.now.bytes))) f.0 c.args.out.now c.next.new.out f.1 c.in_err-next.ensures.stopped)

pub resume-requires : goal.resume-requires
resume-requires g c =
    let h = subst (λ (r : Option Resumption). NextIs (next c.args.image.now (plain c.args.mem.now.bytes)) r c.next.new.mem.bytes) c.in-Some.is c.in_ok-next.ensures.outcome in
    record {
      gates = c.in_ok-next.ensures.made.gates;
      turn = record {
        fits = c.in_ok-next.ensures.made.fits;
        over = over_turn c.args.image.now (plain c.args.mem.now.bytes) c.in-Some.resumption c.next.new.mem.bytes h c.requires.right;
      };
    }

pub returns-in_err-turned-in-Some-clause-stopped : goal.returns-in_err-turned-in-Some-clause-stopped
returns-in_err-turned-in-Some-clause-stopped g c =
    let all = marks_of_round (rounds.round c.args.image.now (plain c.args.mem.now.bytes)) in
    let first = marks_of_next (next c.args.image.now (plain c.args.mem.now.bytes)) in
    let later = marks_in (resumed c.args.image.now c.in-Some.resumption.gate c.in-Some.resumption.level (plain c.next.new.mem.bytes)) in
    let h = subst (λ (r : Option Resumption). NextIs (next c.args.image.now (plain c.args.mem.now.bytes)) r c.next.new.mem.bytes) c.in-Some.is c.in_ok-next.ensures.outcome in
    let parts = marks_round c.args.image.now (plain c.args.mem.now.bytes) c.in-Some.resumption c.next.new.mem.bytes h c.requires.right in
    on_err c.from_residual-in_err-turned-in-Some.result (Stopped g.W.MarkSink.notes g.W.MarkSink.stops all c.args.out.now c.resume.new.out)
    (stopped_in g.W.MarkSink.notes g.W.MarkSink.stops all first later [] c.args.out.now c.next.new.out c.resume.new.out (parts ∙ sym (append-nil (first ++ later))) c.in_ok-next.ensures.noted c.in_err-turned-in-Some.ensures.stopped)

pub returns-in-None-clause-outcome : goal.returns-in-None-clause-outcome
returns-in-None-clause-outcome g c =
    let h = subst (λ (r : Option Resumption). NextIs (next c.args.image.now (plain c.args.mem.now.bytes)) r c.next.new.mem.bytes) c.in-None.is c.in_ok-next.ensures.outcome in
    rests c.args.image.now (plain c.args.mem.now.bytes) c.next.new.mem.bytes c.write_number.new.mem.bytes h c.write_number.ensures.bytes

pub returns-in-None-clause-noted : goal.returns-in-None-clause-noted
returns-in-None-clause-noted g c =
    let h = subst (λ (r : Option Resumption). NextIs (next c.args.image.now (plain c.args.mem.now.bytes)) r c.next.new.mem.bytes) c.in-None.is c.in_ok-next.ensures.outcome in
    subst (λ (l : List Mark). Noted g.W.MarkSink.notes l c.args.out.now c.next.new.out) (sym (rest_marks c.args.image.now (plain c.args.mem.now.bytes) c.next.new.mem.bytes h)) c.in_ok-next.ensures.noted

pub returns-in_ok-turned-in-Some-clause-outcome : goal.returns-in_ok-turned-in-Some-clause-outcome
returns-in_ok-turned-in-Some-clause-outcome g c =
    let h = subst (λ (r : Option Resumption). NextIs (next c.args.image.now (plain c.args.mem.now.bytes)) r c.next.new.mem.bytes) c.in-Some.is c.in_ok-next.ensures.outcome in
    subst (λ (r : Option After). RoundIs (rounds.round c.args.image.now (plain c.args.mem.now.bytes)) r c.resume.new.mem.bytes) (sym c.end_of_turn.ensures)
    (turn_round c.args.image.now (plain c.args.mem.now.bytes) c.in-Some.resumption c.next.new.mem.bytes c.resume.new.mem.bytes c.in_ok-turned-in-Some.turned h c.in_ok-turned-in-Some.ensures.outcome)

pub returns-in_ok-turned-in-Some-clause-noted : goal.returns-in_ok-turned-in-Some-clause-noted
returns-in_ok-turned-in-Some-clause-noted g c =
    let all = marks_of_round (rounds.round c.args.image.now (plain c.args.mem.now.bytes)) in
    let h = subst (λ (r : Option Resumption). NextIs (next c.args.image.now (plain c.args.mem.now.bytes)) r c.next.new.mem.bytes) c.in-Some.is c.in_ok-next.ensures.outcome in
    noted_in g.W.MarkSink.notes all (marks_of_next (next c.args.image.now (plain c.args.mem.now.bytes))) (marks_in (resumed c.args.image.now c.in-Some.resumption.gate c.in-Some.resumption.level (plain c.next.new.mem.bytes))) c.args.out.now c.next.new.out c.resume.new.out
    (marks_round c.args.image.now (plain c.args.mem.now.bytes) c.in-Some.resumption c.next.new.mem.bytes h c.requires.right) c.in_ok-next.ensures.noted c.in_ok-turned-in-Some.ensures.noted
