use Rattle.ceu_run.proofs.CompiledCommands.{waits, advance_comes}
use Rattle.ceu_run.proofs.Ran.{advance_ran, on_answered}
use Rattle.ceu_run.proofs.compiled.CompiledReactor.advance.Goals as goal

pub returns-clause-reaction : goal.returns-clause-reaction
returns-clause-reaction g c = λ K b here. rw c.answered.ensures
    (advance_comes g.W.MarkSink.notes g.W.MarkSink.stops c.args.self.now.session c.advance-came.new.self c.args.out.now c.advance-came.new.out c.advance-came.result c.advance-came.ensures.image c.advance-came.ensures.state
    c.args.us (c.advance-came.ensures.outcome, c.advance-came.ensures.noted, c.advance-came.ensures.stopped) c.requires.time (waits c.args.self.now.session c.requires.waits.0 c.requires.waits.1) K b here)

pub returns-clause-ran : goal.returns-clause-ran
returns-clause-ran g c = λ start xs ran. rw c.answered.ensures (on_answered c.advance-came.result _
    (advance_ran c.args.self.now.session c.advance-came.new.self c.advance-came.result c.advance-came.ensures.image c.advance-came.ensures.state
    c.args.us (waits c.args.self.now.session c.requires.waits.0 c.requires.waits.1) c.advance-came.ensures.outcome start.session xs ran))
