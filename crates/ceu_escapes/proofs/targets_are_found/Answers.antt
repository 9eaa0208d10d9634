use Rattle.ceu_escapes.proofs.Found.{targets_found}
use Rattle.ceu_escapes.proofs.targets_are_found.Goals as goal

pub returns : goal.returns
returns c = targets_found
