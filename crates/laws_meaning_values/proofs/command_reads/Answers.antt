use Rattle.laws_meaning_values.proofs.RunValues.{command_reads}
use Rattle.laws_meaning_values.proofs.command_reads.Goals as goal

pub returns : goal.returns
returns c = λ K m k n xs x f w p q e. command_reads K p q m k n xs x f w e
