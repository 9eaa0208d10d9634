use Rattle.laws_meaning_assigned.proofs.Runs.{boot_reads}
use Rattle.laws_meaning_assigned.proofs.boot_reads.Goals as goal

pub returns : goal.returns
returns c = λ K k n f w p e. boot_reads K p k n f w e
