use Rattle.ceu_syntax.proofs.Outcomes.{one_broken, program_or_broken, some_outcome}
use Rattle.ceu_syntax.proofs.laws.one_outcome.Goals as goal

pub returns : goal.returns
returns c = record { some = some_outcome; either = program_or_broken; first = one_broken }
