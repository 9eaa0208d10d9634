use Rattle.laws_meaning_values.proofs.RunValues.{done_valued}
use Rattle.laws_meaning_values.proofs.command_valued.Goals as goal

pub returns : goal.returns
returns c = λ K n x c p q t h. done_valued K p q n x c t h
