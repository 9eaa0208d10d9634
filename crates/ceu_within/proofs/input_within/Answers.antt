use Rattle.ceu_within.proofs.Whole.{input_within}
use Rattle.ceu_within.proofs.input_within.Goals as goal

pub returns : goal.returns
returns c = input_within
