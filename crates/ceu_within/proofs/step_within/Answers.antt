use Rattle.ceu_within.proofs.Whole.{step_within}
use Rattle.ceu_within.proofs.step_within.Goals as goal

pub returns : goal.returns
returns c = step_within
