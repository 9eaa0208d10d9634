use Rattle.ceu_run.proofs.CompiledCommands.{boot_comes}
use Rattle.ceu_run.proofs.Ran.{boot_ran, on_answered}
use Rattle.ceu_run.proofs.compiled.CompiledReactor.boot.Goals as goal

pub returns-clause-reaction : goal.returns-clause-reaction
returns-clause-reaction g c = λ K fresh. rw c.answered.ensures
    (boot_comes g.W.MarkSink.notes g.W.MarkSink.stops c.args.self.now.session c.boot-came.new.self c.args.out.now c.boot-came.new.out c.boot-came.result c.boot-came.ensures.image c.boot-came.ensures.state
    (c.boot-came.ensures.outcome, c.boot-came.ensures.noted, c.boot-came.ensures.stopped) K fresh)

pub returns-clause-ran : goal.returns-clause-ran
returns-clause-ran g c = rw c.answered.ensures (on_answered c.boot-came.result _
    (boot_ran c.args.self.now.session c.boot-came.new.self c.boot-came.result c.boot-came.ensures.image c.boot-came.ensures.state c.requires.1.blank c.boot-came.ensures.outcome))
