use Rattle.ceu_syntax.proofs.Exact.{accepted_derives, derived_accepted}
use Rattle.ceu_syntax.proofs.laws.accepts_programs.Goals as goal

pub returns-clause-accepted : goal.returns-clause-accepted
returns-clause-accepted c tokens nodes a = accepted_derives tokens nodes a

pub returns-clause-all : goal.returns-clause-all
returns-clause-all c tokens nodes d = derived_accepted tokens nodes d
