use Rattle.laws_meaning_assigned.proofs.Runs.{boot_outer_reads}
use Rattle.laws_meaning_assigned.proofs.boot_outer_reads.Goals as goal

pub returns : goal.returns
returns c = λ K k n slot f s w p e q v m. boot_outer_reads K p k n slot f s w e q v m
