use Rattle.std.proofs.Common.{◌++◌, [], ap, sym, subst, ◌∙◌}
use Rattle.std.proofs.lemmas.List.{append-nil}
use Rattle.ceu_isa.specs.Commands as commands
use Rattle.ceu_isa.specs.Commands.{marks_of}
use Rattle.ceu_isa.specs.Reactions.{Config, reacts}
use Rattle.ceu_isa.specs.Turns.{turned}
use Rattle.ceu_machine.specs.declared.turning.Turned.{Turned}
use Rattle.ceu_machine.specs.Noting.{Stopped}
use Rattle.ceu_machine.specs.States.{plain}
use Rattle.ceu_machine.specs.Turning.{Outcome, marks_in}
use Rattle.ceu_machine.proofs.Turns.{on_err}
use Rattle.ceu_react.specs.Coming.{Came}
use Rattle.ceu_react.specs.Marking.{IsKept}
use Rattle.ceu_react.proofs.Prepared.{serve_begins, paused_is}
use Rattle.ceu_react.proofs.Runs.{unmarked_kept, marks_marked, came_marked}
use Rattle.ceu_react.proofs.Sinks.{stopped_first, stopped_in, noted_in}
use Rattle.ceu_react.proofs.commands.serve.Goals as goal

pub returns-in_err-turned-clause-stopped : goal.returns-in_err-turned-clause-stopped
returns-in_err-turned-clause-stopped g c =
    let s = turned c.args.image.now c.args.gate (plain c.args.mem.now.bytes) in
    let all = marks_of (commands.after_serving c.args.image.now s) in
    let b = serve_begins c.args.image.now s c.requires.allowed in
    on_err c.from_residual.result (Stopped g.W.MarkSink.notes g.W.MarkSink.stops all c.args.out.now c.turn.new.out)
    (stopped_first g.W.MarkSink.notes g.W.MarkSink.stops all (marks_in s) b.0 c.args.out.now c.turn.new.out b.1 c.in_err-turned.ensures.stopped)

pub react-requires-clause-allowed : goal.react-requires-clause-allowed
react-requires-clause-allowed g c =
    let s = turned c.args.image.now c.args.gate (plain c.args.mem.now.bytes) in
    let h = subst (λ (t : Turned). Outcome s t c.turn.new.mem.bytes) c.in-Paused.is c.in_ok-turned.ensures.outcome in
    unmarked_kept (marks_in s) (reacts c.args.image.now (plain c.turn.new.mem.bytes)) (subst IsKept (paused_is c.args.image.now s c.turn.new.mem.bytes h) c.requires.allowed)

pub returns-in_err-after-in-Paused-clause-stopped : goal.returns-in_err-after-in-Paused-clause-stopped
returns-in_err-after-in-Paused-clause-stopped g c =
    let s = turned c.args.image.now c.args.gate (plain c.args.mem.now.bytes) in
    let all = marks_of (commands.after_serving c.args.image.now s) in
    let later = reacts c.args.image.now (plain c.turn.new.mem.bytes) in
    let h = subst (λ (t : Turned). Outcome s t c.turn.new.mem.bytes) c.in-Paused.is c.in_ok-turned.ensures.outcome in
    let e = paused_is c.args.image.now s c.turn.new.mem.bytes h in
    let kept = unmarked_kept (marks_in s) later (subst IsKept e c.requires.allowed) in
    on_err c.from_residual-in_err-after-in-Paused.result (Stopped g.W.MarkSink.notes g.W.MarkSink.stops all c.args.out.now c.react.new.out)
    (stopped_in g.W.MarkSink.notes g.W.MarkSink.stops all (marks_in s) (marks_of later) [] c.args.out.now c.turn.new.out c.react.new.out (ap marks_of e ∙ marks_marked (marks_in s) later kept ∙ sym (append-nil (marks_in s ++ marks_of later))) c.in_ok-turned.ensures.noted c.in_err-after-in-Paused.ensures.stopped)

pub returns-in_ok-after-in-Paused-clause-outcome : goal.returns-in_ok-after-in-Paused-clause-outcome
returns-in_ok-after-in-Paused-clause-outcome g c =
    let s = turned c.args.image.now c.args.gate (plain c.args.mem.now.bytes) in
    let h = subst (λ (t : Turned). Outcome s t c.turn.new.mem.bytes) c.in-Paused.is c.in_ok-turned.ensures.outcome in
    let e = paused_is c.args.image.now s c.turn.new.mem.bytes h in
    subst (λ (x : Config). Came x c.in_ok-after-in-Paused.after c.react.new.mem.bytes) (sym e)
    (came_marked (marks_in s) (reacts c.args.image.now (plain c.turn.new.mem.bytes)) c.in_ok-after-in-Paused.after c.react.new.mem.bytes c.in_ok-after-in-Paused.ensures.outcome)

pub returns-in_ok-after-in-Paused-clause-noted : goal.returns-in_ok-after-in-Paused-clause-noted
returns-in_ok-after-in-Paused-clause-noted g c =
    let s = turned c.args.image.now c.args.gate (plain c.args.mem.now.bytes) in
    let all = marks_of (commands.after_serving c.args.image.now s) in
    let later = reacts c.args.image.now (plain c.turn.new.mem.bytes) in
    let h = subst (λ (t : Turned). Outcome s t c.turn.new.mem.bytes) c.in-Paused.is c.in_ok-turned.ensures.outcome in
    let e = paused_is c.args.image.now s c.turn.new.mem.bytes h in
    let kept = unmarked_kept (marks_in s) later (subst IsKept e c.requires.allowed) in
    noted_in g.W.MarkSink.notes all (marks_in s) (marks_of later) c.args.out.now c.turn.new.out c.react.new.out (ap marks_of e ∙ marks_marked (marks_in s) later kept) c.in_ok-turned.ensures.noted c.in_ok-after-in-Paused.ensures.noted
