use Rattle.ceu_trail.proofs.Codes.{program_is_built}
use Rattle.ceu_trail.proofs.program_is_built.Goals as goal

pub returns : goal.returns
returns c = program_is_built
