use Rattle.ceu_endings.proofs.Running.{one_level}
use Rattle.ceu_endings.proofs.one_level.Goals as goal

pub returns : goal.returns
returns c = λ K k r w p h x. one_level K k r w p h x
