use Rattle.laws_meaning_assigned.proofs.Runs.{command_outer_reads}
use Rattle.laws_meaning_assigned.proofs.command_outer_reads.Goals as goal

pub returns : goal.returns
returns c = λ K m k n slot xs x f s w p e q v l. command_outer_reads K p m k n slot xs x f s w e q v l
