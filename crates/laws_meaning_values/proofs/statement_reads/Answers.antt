use Rattle.laws_meaning_values.proofs.Evaluated.{started_has}
use Rattle.laws_meaning_values.proofs.statement_reads.Goals as goal

pub returns : goal.returns
returns c = λ K sc s body w h r. started_has K sc body w s.node s.stmt h r
