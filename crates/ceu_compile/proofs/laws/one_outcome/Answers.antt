use Rattle.ceu_compile.proofs.Outcomes.{breaks_one, program_or_breaks, programs_once}
use Rattle.ceu_compile.proofs.laws.one_outcome.Goals as goal

pub returns : goal.returns
returns c = record { program = programs_once; either = program_or_breaks; first = breaks_one }
