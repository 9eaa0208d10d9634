use Rattle.std.proofs.Common.{◌++◌, List, Option, sym, subst, ◌∙◌}
use Rattle.ceu_base.specs.declared.kinds.Mark.{Mark}
use Rattle.ceu_isa.specs.Commands.{marks_of}
use Rattle.ceu_isa.specs.Reactions.{reaction}
use Rattle.ceu_machine.specs.Noting.{Noted, Stopped}
use Rattle.ceu_machine.specs.States.{plain}
use Rattle.ceu_machine.proofs.Turns.{noted_on, on_err}
use Rattle.ceu_react.specs.declared.after.After.{After}
use Rattle.ceu_react.specs.Coming.{RoundIs}
use Rattle.ceu_react.specs.Rounds as rounds
use Rattle.ceu_react.specs.Rounds.{marks_of_round}
use Rattle.ceu_react.proofs.Runs.{right_on, rest_on, left_on_round, ends_on, begins_on}
use Rattle.ceu_react.proofs.Sinks.{stopped_in}
use Rattle.ceu_react.proofs.reacting.finish.Goals as goal

pub round-requires-clause-right : goal.round-requires-clause-right
round-requires-clause-right g c =
    right_on c.args.image.now c.args.image.now.turns c.rounds.invariant.marks c.rounds.mem.bytes (reaction c.args.image.now c.args.image.now.turns (plain c.args.mem.now.bytes)) c.rounds.invariant.rest c.requires.allowed

pub returns-in_err-after-clause-stopped : goal.returns-in_err-after-clause-stopped
returns-in_err-after-clause-stopped g c =
    let t = reaction c.args.image.now c.args.image.now.turns (plain c.args.mem.now.bytes) in
    let b = begins_on c.args.image.now c.args.image.now.turns c.rounds.invariant.marks c.rounds.mem.bytes (reaction c.args.image.now c.args.image.now.turns (plain c.args.mem.now.bytes)) c.rounds.invariant.rest c.requires.allowed in
    on_err c.from_residual.result (Stopped g.W.MarkSink.notes g.W.MarkSink.stops (marks_of t) c.args.out.now c.round.new.out)
    (stopped_in g.W.MarkSink.notes g.W.MarkSink.stops (marks_of t) c.rounds.invariant.marks (marks_of_round (rounds.round c.args.image.now (plain c.rounds.mem.bytes))) b.0 c.args.out.now c.rounds.out c.round.new.out b.1 c.rounds.invariant.noted c.in_err-after.ensures.stopped)

pub returns-in-Some-clause-outcome : goal.returns-in-Some-clause-outcome
returns-in-Some-clause-outcome g c =
    let h = subst (λ (r : Option After). RoundIs (rounds.round c.args.image.now (plain c.rounds.mem.bytes)) r c.round.new.mem.bytes) c.in-Some.is c.in_ok-after.ensures.outcome in
    (ends_on c.args.image.now c.args.image.now.turns c.rounds.invariant.marks c.rounds.mem.bytes c.round.new.mem.bytes c.in-Some.after (reaction c.args.image.now c.args.image.now.turns (plain c.args.mem.now.bytes)) c.rounds.invariant.rest c.requires.allowed h).0

pub returns-in-Some-clause-noted : goal.returns-in-Some-clause-noted
returns-in-Some-clause-noted g c =
    let h = subst (λ (r : Option After). RoundIs (rounds.round c.args.image.now (plain c.rounds.mem.bytes)) r c.round.new.mem.bytes) c.in-Some.is c.in_ok-after.ensures.outcome in
    let e = (ends_on c.args.image.now c.args.image.now.turns c.rounds.invariant.marks c.rounds.mem.bytes c.round.new.mem.bytes c.in-Some.after (reaction c.args.image.now c.args.image.now.turns (plain c.args.mem.now.bytes)) c.rounds.invariant.rest c.requires.allowed h).1 in
    subst (λ (l : List Mark). Noted g.W.MarkSink.notes l c.args.out.now c.round.new.out) (sym e)
    (noted_on g.W.MarkSink.notes c.rounds.invariant.marks (marks_of_round (rounds.round c.args.image.now (plain c.rounds.mem.bytes))) c.args.out.now c.rounds.out c.round.new.out c.rounds.invariant.noted c.in_ok-after.ensures.noted)

pub rounds-preserved : goal.rounds-preserved
rounds-preserved g c =
    let h = subst (λ (r : Option After). RoundIs (rounds.round c.args.image.now (plain c.rounds.mem.bytes)) r c.round.new.mem.bytes) c.in-None.is c.in_ok-after.ensures.outcome in
    record {
      marks = c.rounds.invariant.marks ++ marks_of_round (rounds.round c.args.image.now (plain c.rounds.mem.bytes));
      noted = noted_on g.W.MarkSink.notes c.rounds.invariant.marks (marks_of_round (rounds.round c.args.image.now (plain c.rounds.mem.bytes))) c.args.out.now c.rounds.out c.round.new.out c.rounds.invariant.noted c.in_ok-after.ensures.noted;
      rest = rest_on c.args.image.now c.args.image.now.turns c.rounds.invariant.marks c.rounds.mem.bytes c.round.new.mem.bytes (reaction c.args.image.now c.args.image.now.turns (plain c.args.mem.now.bytes)) c.rounds.invariant.rest c.requires.allowed h;
      made = c.in_ok-after.ensures.made;
      count = c.in_ok-after.ensures.cause ∙ c.rounds.invariant.count;
    }

pub rounds-smaller : goal.rounds-smaller
rounds-smaller g c =
    let h = subst (λ (r : Option After). RoundIs (rounds.round c.args.image.now (plain c.rounds.mem.bytes)) r c.round.new.mem.bytes) c.in-None.is c.in_ok-after.ensures.outcome in
    left_on_round c.args.image.now c.args.image.now.turns c.rounds.invariant.marks c.rounds.mem.bytes c.round.new.mem.bytes (reaction c.args.image.now c.args.image.now.turns (plain c.args.mem.now.bytes)) c.rounds.invariant.rest c.requires.allowed h
