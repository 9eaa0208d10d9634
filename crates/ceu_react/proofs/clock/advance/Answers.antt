use Rattle.std.proofs.Common.{◌≡◌, ◌+◌, ◌-◌, ◌++◌, List, sym, subst, ◌∙◌, arith}
use Rattle.ceu_base.specs.declared.kinds.Mark.{Mark}
use Rattle.ceu_isa.specs.Commands.{advanced, marks_of}
use Rattle.ceu_isa.specs.Reactions.{Waits}
use Rattle.ceu_machine.specs.Noting.{Noted, Stopped}
use Rattle.ceu_machine.specs.States.{plain}
use Rattle.ceu_machine.proofs.Turns.{noted_on, on_err}
use Rattle.ceu_react.specs.declared.after.After.{After}
use Rattle.ceu_react.specs.Coming.{Came}
use Rattle.ceu_react.proofs.Advancing.{first_served, served_kept, rest_on, over_on, begins_on, none_on, later_on, out_on}
use Rattle.ceu_react.proofs.Sinks.{stopped_in}
use Rattle.ceu_react.proofs.clock.advance.Goals as goal

pub returns-in-None-clause-outcome : goal.returns-in-None-clause-outcome
returns-in-None-clause-outcome g c =
    let one : c.timers.reactions ≡ (c.timers.reactions - 1) + 1 = omega arith in
    (none_on c.args.image.now c.timers.invariant.marks c.timers.reactions (c.timers.reactions - 1) c.timers.left c.timers.mem.bytes (advanced c.args.image.now (c.args.us + 1) c.args.us (Waits (plain c.args.mem.now.bytes))) c.timers.invariant.rest one (sym c.in-None.ensures.value)).0

pub returns-in-None-clause-noted : goal.returns-in-None-clause-noted
returns-in-None-clause-noted g c =
    let one : c.timers.reactions ≡ (c.timers.reactions - 1) + 1 = omega arith in
    subst (λ (l : List Mark). Noted g.W.MarkSink.notes l c.args.out.now c.timers.out) (sym (none_on c.args.image.now c.timers.invariant.marks c.timers.reactions (c.timers.reactions - 1) c.timers.left c.timers.mem.bytes (advanced c.args.image.now (c.args.us + 1) c.args.us (Waits (plain c.args.mem.now.bytes))) c.timers.invariant.rest one (sym c.in-None.ensures.value)).1) c.timers.invariant.noted

pub returns-then-left-time-clause-outcome : goal.returns-then-left-time-clause-outcome
returns-then-left-time-clause-outcome g c =
    let one : c.timers.reactions ≡ (c.timers.reactions - 1) + 1 = omega arith in
    (later_on c.args.image.now c.timers.invariant.marks c.timers.reactions (c.timers.reactions - 1) c.timers.left c.in-Some.time c.timers.mem.bytes c.pass.new.mem.bytes (advanced c.args.image.now (c.args.us + 1) c.args.us (Waits (plain c.args.mem.now.bytes))) c.timers.invariant.rest one (sym c.in-Some.ensures.value) c.if-left-time.true c.pass.ensures.bytes).0

pub returns-then-left-time-clause-noted : goal.returns-then-left-time-clause-noted
returns-then-left-time-clause-noted g c =
    let one : c.timers.reactions ≡ (c.timers.reactions - 1) + 1 = omega arith in
    subst (λ (l : List Mark). Noted g.W.MarkSink.notes l c.args.out.now c.timers.out) (sym (later_on c.args.image.now c.timers.invariant.marks c.timers.reactions (c.timers.reactions - 1) c.timers.left c.in-Some.time c.timers.mem.bytes c.pass.new.mem.bytes (advanced c.args.image.now (c.args.us + 1) c.args.us (Waits (plain c.args.mem.now.bytes))) c.timers.invariant.rest one (sym c.in-Some.ensures.value) c.if-left-time.true c.pass.ensures.bytes).1) c.timers.invariant.noted

pub serve_timers-requires-clause-allowed : goal.serve_timers-requires-clause-allowed
serve_timers-requires-clause-allowed g c =
    let one : c.timers.reactions ≡ (c.timers.reactions - 1) + 1 = omega arith in
    served_kept c.args.image.now c.timers.invariant.marks c.timers.reactions (c.timers.reactions - 1) c.timers.left c.in-Some.time c.timers.mem.bytes (advanced c.args.image.now (c.args.us + 1) c.args.us (Waits (plain c.args.mem.now.bytes))) c.timers.invariant.rest one (sym c.in-Some.ensures.value) c.if-left-time.false c.requires.allowed

pub returns-in_err-after-in-Some-clause-stopped : goal.returns-in_err-after-in-Some-clause-stopped
returns-in_err-after-in-Some-clause-stopped g c =
    let one : c.timers.reactions ≡ (c.timers.reactions - 1) + 1 = omega arith in
    let b = begins_on c.args.image.now c.timers.invariant.marks c.timers.reactions (c.timers.reactions - 1) c.timers.left c.in-Some.time c.timers.mem.bytes (advanced c.args.image.now (c.args.us + 1) c.args.us (Waits (plain c.args.mem.now.bytes))) c.timers.invariant.rest one (sym c.in-Some.ensures.value) c.if-left-time.false c.requires.allowed in
    on_err c.from_residual.result (Stopped g.W.MarkSink.notes g.W.MarkSink.stops (marks_of (advanced c.args.image.now (c.args.us + 1) c.args.us (Waits (plain c.args.mem.now.bytes)))) c.args.out.now c.serve_timers.new.out)
    (stopped_in g.W.MarkSink.notes g.W.MarkSink.stops (marks_of (advanced c.args.image.now (c.args.us + 1) c.args.us (Waits (plain c.args.mem.now.bytes)))) c.timers.invariant.marks (marks_of (first_served c.args.image.now c.timers.left c.in-Some.time c.timers.mem.bytes)) b.0 c.args.out.now c.timers.out c.serve_timers.new.out b.1 c.timers.invariant.noted c.in_err-after-in-Some.ensures.stopped)

pub timers-preserved : goal.timers-preserved
timers-preserved g c =
    let one : c.timers.reactions ≡ (c.timers.reactions - 1) + 1 = omega arith in
    let came = subst (λ (a : After). Came (first_served c.args.image.now c.timers.left c.in-Some.time c.timers.mem.bytes) a c.serve_timers.new.mem.bytes) c.in-Waiting.is c.in_ok-after-in-Some.ensures.outcome in
    record {
      marks = c.timers.invariant.marks ++ marks_of (first_served c.args.image.now c.timers.left c.in-Some.time c.timers.mem.bytes);
      noted = noted_on g.W.MarkSink.notes c.timers.invariant.marks (marks_of (first_served c.args.image.now c.timers.left c.in-Some.time c.timers.mem.bytes)) c.args.out.now c.timers.out c.serve_timers.new.out c.timers.invariant.noted c.in_ok-after-in-Some.ensures.noted;
      rest = rest_on c.args.image.now c.timers.invariant.marks c.timers.reactions (c.timers.reactions - 1) c.timers.left c.in-Some.time c.timers.mem.bytes c.serve_timers.new.mem.bytes (advanced c.args.image.now (c.args.us + 1) c.args.us (Waits (plain c.args.mem.now.bytes))) c.timers.invariant.rest one (sym c.in-Some.ensures.value) c.if-left-time.false came;
      made = c.in_ok-after-in-Some.ensures.made;
      count = c.in_ok-after-in-Some.ensures.cause ∙ c.timers.invariant.count;
    }

pub returns-in_default : goal.returns-in_default
returns-in_default g c =
    let one : c.timers.reactions ≡ (c.timers.reactions - 1) + 1 = omega arith in
    let over = over_on c.args.image.now c.timers.invariant.marks c.timers.reactions (c.timers.reactions - 1) c.timers.left c.in-Some.time c.timers.mem.bytes c.serve_timers.new.mem.bytes c.in_ok-after-in-Some.after (advanced c.args.image.now (c.args.us + 1) c.args.us (Waits (plain c.args.mem.now.bytes))) c.timers.invariant.rest one (sym c.in-Some.ensures.value) c.if-left-time.false c.requires.allowed c.in_default.not-Waiting c.in_ok-after-in-Some.ensures.outcome in
    record {
      outcome = over.0;
      noted = subst (λ (l : List Mark). Noted g.W.MarkSink.notes l c.args.out.now c.serve_timers.new.out) (sym over.1) (noted_on g.W.MarkSink.notes c.timers.invariant.marks (marks_of (first_served c.args.image.now c.timers.left c.in-Some.time c.timers.mem.bytes)) c.args.out.now c.timers.out c.serve_timers.new.out c.timers.invariant.noted c.in_ok-after-in-Some.ensures.noted);
      stopped = tt;
      cause = c.in_ok-after-in-Some.ensures.cause ∙ c.timers.invariant.count;
      made = c.in_ok-after-in-Some.ensures.made;
    }

pub returns-clause-outcome : goal.returns-clause-outcome
returns-clause-outcome g c =
    let none : c.timers.reactions ≡ 0 = omega arith in
    (out_on c.args.image.now c.timers.invariant.marks c.timers.reactions c.timers.left c.timers.mem.bytes (advanced c.args.image.now (c.args.us + 1) c.args.us (Waits (plain c.args.mem.now.bytes))) c.timers.invariant.rest none).0

pub returns-clause-noted : goal.returns-clause-noted
returns-clause-noted g c =
    let none : c.timers.reactions ≡ 0 = omega arith in
    subst (λ (l : List Mark). Noted g.W.MarkSink.notes l c.args.out.now c.timers.out) (sym (out_on c.args.image.now c.timers.invariant.marks c.timers.reactions c.timers.left c.timers.mem.bytes (advanced c.args.image.now (c.args.us + 1) c.args.us (Waits (plain c.args.mem.now.bytes))) c.timers.invariant.rest none).1) c.timers.invariant.noted

pub serve_timers-requires-clause-short : goal.serve_timers-requires-clause-short
serve_timers-requires-clause-short g c = c.in-Some.ensures.least.least

pub pass-requires-clause-short : goal.pass-requires-clause-short
pass-requires-clause-short g c = λ i lt t.
    let least = c.in-Some.ensures.least.least i lt t in
    let less = c.if-left-time.true in
    omega arith
