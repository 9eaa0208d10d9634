use Rattle.std.proofs.Common.{◌≡◌, ◌+◌, ◌-◌, ap, ◌∷◌, ◌++◌, [], List, sym, subst, ◌∙◌, arith}
use Rattle.ceu_base.specs.declared.kinds.Mark.{Mark}
use Rattle.ceu_base.specs.declared.kinds.Mark.TheVariants.{Pop}
use Rattle.ceu_isa.specs.Reactions.{next, next_turn}
use Rattle.ceu_machine.specs.Noting.{Noted, Stopped}
use Rattle.ceu_machine.specs.States.{plain}
use Rattle.ceu_machine.proofs.Turns.{noted_on, on_err}
use Rattle.ceu_react.specs.Rounds.{marks_of_next}
use Rattle.ceu_react.proofs.Levels.{next_decided, clear_on, rest_on, found_next, found_marks, none_next, none_marks, marks_marked}
use Rattle.ceu_react.proofs.Sinks.{stopped_in}
use Rattle.ceu_react.proofs.closing.next.Goals as goal

pub first_at-requires-clause-decided : goal.first_at-requires-clause-decided
first_at-requires-clause-decided g c =
    next_decided c.args.image.now c.levels.level (plain c.levels.mem.bytes) (clear_on c.args.image.now c.levels.invariant.marks c.levels.level c.levels.mem.bytes (next c.args.image.now (plain c.args.mem.now.bytes)) c.levels.invariant.rest c.requires.clear)

pub returns-in-Some-clause-outcome : goal.returns-in-Some-clause-outcome
returns-in-Some-clause-outcome g c =
    found_next c.args.image.now c.levels.invariant.marks c.levels.level c.in-Some.gate c.levels.mem.bytes (next c.args.image.now (plain c.args.mem.now.bytes)) c.levels.invariant.rest c.in-Some.ensures.first

pub returns-in-Some-clause-noted : goal.returns-in-Some-clause-noted
returns-in-Some-clause-noted g c =
    subst (λ (l : List Mark). Noted g.W.MarkSink.notes l c.args.out.now c.levels.out)
    (sym (found_marks c.args.image.now c.levels.invariant.marks c.levels.level c.in-Some.gate c.levels.mem.bytes (next c.args.image.now (plain c.args.mem.now.bytes)) c.levels.invariant.rest c.in-Some.ensures.first))
    c.levels.invariant.noted

pub returns-then-level-eq0-clause-outcome : goal.returns-then-level-eq0-clause-outcome
returns-then-level-eq0-clause-outcome g c =
    none_next c.args.image.now c.levels.invariant.marks c.levels.level c.levels.mem.bytes (next c.args.image.now (plain c.args.mem.now.bytes)) c.levels.invariant.rest c.if-level-eq0.true c.in-None.ensures.first

pub returns-then-level-eq0-clause-noted : goal.returns-then-level-eq0-clause-noted
returns-then-level-eq0-clause-noted g c =
    subst (λ (l : List Mark). Noted g.W.MarkSink.notes l c.args.out.now c.levels.out)
    (sym (none_marks c.args.image.now c.levels.invariant.marks c.levels.level c.levels.mem.bytes (next c.args.image.now (plain c.args.mem.now.bytes)) c.levels.invariant.rest c.if-level-eq0.true c.in-None.ensures.first))
    c.levels.invariant.noted

pub levels-preserved : goal.levels-preserved
levels-preserved g c =
    let one : c.levels.level ≡ (c.levels.level - 1) + 1 = omega arith in
    record {
      marks = c.levels.invariant.marks ++ Pop ((c.levels.level - 1) + 1) ∷ [];
      noted = noted_on g.W.MarkSink.notes c.levels.invariant.marks (Pop ((c.levels.level - 1) + 1) ∷ []) c.args.out.now c.levels.out c.close.new.out c.levels.invariant.noted c.in_ok-close-in-None.ensures.noted;
      rest = rest_on c.args.image.now c.levels.invariant.marks c.levels.level (c.levels.level - 1) c.levels.mem.bytes c.close.new.mem.bytes (next c.args.image.now (plain c.args.mem.now.bytes)) c.levels.invariant.rest one c.in-None.ensures.first c.close.ensures.bytes;
      made = c.close.ensures.made;
      count = c.in_ok-close-in-None.ensures.cause ∙ c.levels.invariant.count;
    }

pub returns-in_err-close-in-None-clause-stopped : goal.returns-in_err-close-in-None-clause-stopped
returns-in_err-close-in-None-clause-stopped g c =
    let t = next c.args.image.now (plain c.args.mem.now.bytes) in
    let one : c.levels.level ≡ (c.levels.level - 1) + 1 = omega arith in
    let rest = rest_on c.args.image.now c.levels.invariant.marks c.levels.level (c.levels.level - 1) c.levels.mem.bytes c.close.new.mem.bytes (next c.args.image.now (plain c.args.mem.now.bytes)) c.levels.invariant.rest one c.in-None.ensures.first c.close.ensures.bytes in
    let ms = c.levels.invariant.marks ++ Pop ((c.levels.level - 1) + 1) ∷ [] in
    let after = next_turn c.args.image.now (c.levels.level - 1) (plain c.close.new.mem.bytes) in
    let clear = clear_on c.args.image.now (c.levels.invariant.marks ++ Pop ((c.levels.level - 1) + 1) ∷ []) (c.levels.level - 1) c.close.new.mem.bytes (next c.args.image.now (plain c.args.mem.now.bytes)) rest c.requires.clear in
    let all : marks_of_next t ≡ ms ++ marks_of_next after = ap marks_of_next rest ∙ marks_marked ms after clear in
    on_err c.from_residual.result (Stopped g.W.MarkSink.notes g.W.MarkSink.stops (marks_of_next t) c.args.out.now c.close.new.out)
    (stopped_in g.W.MarkSink.notes g.W.MarkSink.stops (marks_of_next t) c.levels.invariant.marks (Pop ((c.levels.level - 1) + 1) ∷ []) (marks_of_next after) c.args.out.now c.levels.out c.close.new.out all c.levels.invariant.noted c.in_err-close-in-None.ensures.stopped)
