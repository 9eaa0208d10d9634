use Rattle.ceu_within.proofs.Whole.{chosen_within}
use Rattle.ceu_within.proofs.chosen_within.Goals as goal

pub returns : goal.returns
returns c = chosen_within
