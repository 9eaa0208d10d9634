use Rattle.ceu_run.proofs.CompiledCommands.{waits, idle_comes}
use Rattle.ceu_run.proofs.Ran.{idle_ran, on_answered}
use Rattle.ceu_run.proofs.compiled.CompiledReactor.idle.Goals as goal

pub returns-clause-reaction : goal.returns-clause-reaction
returns-clause-reaction g c = λ K b here. rw c.answered.ensures
    (idle_comes g.W.MarkSink.notes g.W.MarkSink.stops c.args.self.now.session c.idle-came.new.self c.args.out.now c.idle-came.new.out c.idle-came.result c.idle-came.ensures.image c.idle-came.ensures.state
    (c.idle-came.ensures.outcome, c.idle-came.ensures.noted, c.idle-came.ensures.stopped) (waits c.args.self.now.session c.requires.0 c.requires.1) K b here)

pub returns-clause-ran : goal.returns-clause-ran
returns-clause-ran g c = λ start xs ran. rw c.answered.ensures (on_answered c.idle-came.result _
    (idle_ran c.args.self.now.session c.idle-came.new.self c.idle-came.result c.idle-came.ensures.image c.idle-came.ensures.state
    (waits c.args.self.now.session c.requires.0 c.requires.1) c.idle-came.ensures.outcome start.session xs ran))
