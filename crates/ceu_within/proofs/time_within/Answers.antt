use Rattle.ceu_within.proofs.Whole.{time_within}
use Rattle.ceu_within.proofs.time_within.Goals as goal

pub returns : goal.returns
returns c = time_within
