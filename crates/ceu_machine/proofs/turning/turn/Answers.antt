use Rattle.std.proofs.Common.{◌≡◌, true, false, List, ◌++◌, sym, ◌∙◌, subst}
use Rattle.ceu_base.specs.declared.kinds.Mark.{Mark}
use Rattle.ceu_isa.specs.Turns as turns
use Rattle.ceu_isa.specs.Turns.{longest_turn}
use Rattle.ceu_machine.specs.declared.turning.Turned.{Turned}
use Rattle.ceu_machine.specs.Noting.{Noted, Stopped}
use Rattle.ceu_machine.specs.States.{plain, marks_of}
use Rattle.ceu_machine.specs.Turning as spec
use Rattle.ceu_machine.specs.Turning.{Outcome, marks_in}
use Rattle.ceu_machine.proofs.Ticks.{stuck_or}
use Rattle.ceu_machine.proofs.Turns.{noted_on, allowed_on, rest_on, left_on, outcome_at_end, marks_at_end, stopped_at, on_err}
use Rattle.ceu_machine.proofs.turning.turn.Goals as goal

pub begin-state-requires-clause-allowed : goal.begin-state-requires-clause-allowed
begin-state-requires-clause-allowed g c = stuck_or c.args.image.now longest_turn (turns.begun c.args.image.now c.args.gate (plain c.args.mem.now.bytes)) c.requires.turn.over

pub step-stepped-requires-clause-allowed : goal.step-stepped-requires-clause-allowed
step-stepped-requires-clause-allowed g c =
    let on : spec.is_on c.loop-mem.state ≡ true = sym c.is_on.ensures ∙ c.loop-mem-test.true in
    allowed_on c.args.image.now c.loop-mem.invariant.marks c.loop-mem.state c.loop-mem.mem.bytes (turns.turned c.args.image.now c.args.gate (plain c.args.mem.now.bytes)) c.loop-mem.invariant.rest c.requires.turn.over on

pub returns-in_err-note_done-clause-stopped : goal.returns-in_err-note_done-clause-stopped
returns-in_err-note_done-clause-stopped g c =
    let on : spec.is_on c.loop-mem.state ≡ true = sym c.is_on.ensures ∙ c.loop-mem-test.true in
    let t = turns.turned c.args.image.now c.args.gate (plain c.args.mem.now.bytes) in
    let next = rest_on c.args.image.now c.loop-mem.invariant.marks (marks_of c.step-stepped.result.done) c.loop-mem.state c.step-stepped.result.next c.loop-mem.mem.bytes c.step-stepped.new.mem.bytes t c.loop-mem.invariant.rest c.requires.turn.over on c.step-stepped.ensures.state in
    on_err c.from_residual.result (Stopped g.W.MarkSink.notes g.W.MarkSink.stops (marks_in t) c.args.out.now c.note_done.new.out)
    (stopped_at g.W.MarkSink.notes g.W.MarkSink.stops c.args.image.now c.loop-mem.invariant.marks (marks_of c.step-stepped.result.done) c.step-stepped.result.next c.step-stepped.new.mem.bytes t c.args.out.now c.loop-mem.out c.note_done.new.out next c.requires.turn.over c.loop-mem.invariant.noted c.in_err-note_done.ensures.stopped)

pub loop-mem-smaller : goal.loop-mem-smaller
loop-mem-smaller g c =
    let on : spec.is_on c.loop-mem.state ≡ true = sym c.is_on.ensures ∙ c.loop-mem-test.true in
    left_on c.args.image.now c.loop-mem.invariant.marks (marks_of c.step-stepped.result.done) c.loop-mem.state c.step-stepped.result.next c.loop-mem.mem.bytes c.step-stepped.new.mem.bytes (turns.turned c.args.image.now c.args.gate (plain c.args.mem.now.bytes)) c.loop-mem.invariant.rest c.requires.turn.over on c.step-stepped.ensures.state

pub loop-mem-preserved : goal.loop-mem-preserved
loop-mem-preserved g c =
    let on : spec.is_on c.loop-mem.state ≡ true = sym c.is_on.ensures ∙ c.loop-mem-test.true in
    record {
      marks = c.loop-mem.invariant.marks ++ marks_of c.step-stepped.result.done;
      noted = noted_on g.W.MarkSink.notes c.loop-mem.invariant.marks (marks_of c.step-stepped.result.done) c.args.out.now c.loop-mem.out c.note_done.new.out c.loop-mem.invariant.noted c.in_ok-note_done.ensures.noted;
      rest = rest_on c.args.image.now c.loop-mem.invariant.marks (marks_of c.step-stepped.result.done) c.loop-mem.state c.step-stepped.result.next c.loop-mem.mem.bytes c.step-stepped.new.mem.bytes (turns.turned c.args.image.now c.args.gate (plain c.args.mem.now.bytes)) c.loop-mem.invariant.rest c.requires.turn.over on c.step-stepped.ensures.state;
      made = c.step-stepped.ensures.made;
      count = c.in_ok-note_done.ensures.cause ∙ c.loop-mem.invariant.count;
    }

pub returns-clause-outcome : goal.returns-clause-outcome
returns-clause-outcome g c =
    let off : spec.is_on c.loop-mem.state ≡ false = sym c.is_on.ensures ∙ c.loop-mem-test.false in
    subst (λ (r : Turned). Outcome (turns.turned c.args.image.now c.args.gate (plain c.args.mem.now.bytes)) r c.loop-mem.mem.bytes) (sym c.outcome_of.ensures)
    (outcome_at_end c.args.image.now c.loop-mem.invariant.marks c.loop-mem.state c.loop-mem.mem.bytes (turns.turned c.args.image.now c.args.gate (plain c.args.mem.now.bytes)) c.loop-mem.invariant.rest off)

pub returns-clause-noted : goal.returns-clause-noted
returns-clause-noted g c =
    let off : spec.is_on c.loop-mem.state ≡ false = sym c.is_on.ensures ∙ c.loop-mem-test.false in
    subst (λ (l : List Mark). Noted g.W.MarkSink.notes l c.args.out.now c.loop-mem.out) (sym (marks_at_end c.args.image.now c.loop-mem.invariant.marks c.loop-mem.state c.loop-mem.mem.bytes (turns.turned c.args.image.now c.args.gate (plain c.args.mem.now.bytes)) c.loop-mem.invariant.rest off)) c.loop-mem.invariant.noted
