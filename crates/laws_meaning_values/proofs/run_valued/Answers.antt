use Rattle.laws_meaning_values.proofs.RunValues.{run_valued}
use Rattle.laws_meaning_values.proofs.run_valued.Goals as goal

pub returns : goal.returns
returns c = λ K n xs p q. run_valued K p q n xs
