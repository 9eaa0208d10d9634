use Rattle.ceu_run.proofs.Idle.{config_rests, turn_ran}
use Rattle.ceu_run.proofs.compiled.CompiledReactor.rests.Goals as goal

pub returns-clause-turn : goal.returns-clause-turn
returns-clause-turn c = λ yes K b n here. config_rests c.args.self.now.session K b n here

pub returns-clause-ran : goal.returns-clause-ran
returns-clause-ran c = λ yes K b start xs here ran. turn_ran start.session c.args.self.now.session xs K b here ran
