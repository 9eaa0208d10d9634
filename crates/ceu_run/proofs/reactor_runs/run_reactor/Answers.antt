use Rattle.ceu_io.proofs.Telling.{where_told_same}
use Rattle.ceu_run.proofs.Behind.{told_at_once, told_behind}
use Rattle.ceu_run.proofs.reactor_runs.run_reactor.Goals as goal

pub returns-in-Ok-clause-told : goal.returns-in-Ok-clause-told
returns-in-Ok-clause-told g c = told_behind _ c.args.kernel.now c.play.result _ _ _ _ _ c.in-Ok.ensures.whole (c.play.ensures.told c.args.kernel.now c.requires.fresh)

pub returns-in-Err-clause-told : goal.returns-in-Err-clause-told
returns-in-Err-clause-told g c = told_at_once _ c.args.kernel.now _ _ _ c.in-Err.ensures.front

pub returns-in-Ok-clause-ran : goal.returns-in-Ok-clause-ran
returns-in-Ok-clause-ran g c = c.play.ensures.ran

pub returns-in-Err-clause-ran : goal.returns-in-Err-clause-ran
returns-in-Err-clause-ran g c = where_told_same (g.I.Source.left c.args.input.now) _ (λ old. tt)
