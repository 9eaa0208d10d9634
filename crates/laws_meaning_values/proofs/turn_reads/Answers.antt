use Rattle.laws_meaning_values.proofs.RunValues.{config_reads}
use Rattle.laws_meaning_values.proofs.turn_reads.Goals as goal

pub returns : goal.returns
returns c = λ K n f w p q t h. config_reads K p q n f w t h
