use Rattle.laws_meaning_assigned.proofs.Runs.{command_reads}
use Rattle.laws_meaning_assigned.proofs.command_reads.Goals as goal

pub returns : goal.returns
returns c = λ K m k n xs x f w p e. command_reads K p m k n xs x f w e
