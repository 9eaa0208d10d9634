use Rattle.laws_meaning_values.proofs.RunValues.{next_valued}
use Rattle.laws_meaning_values.proofs.step_valued.Goals as goal

pub returns : goal.returns
returns c = λ K c p q t h. next_valued K p q c t h
