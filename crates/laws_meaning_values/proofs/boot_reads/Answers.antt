use Rattle.laws_meaning_values.proofs.RunValues.{boot_reads}
use Rattle.laws_meaning_values.proofs.boot_reads.Goals as goal

pub returns : goal.returns
returns c = λ K k n f w p q e. boot_reads K p q k n f w e
