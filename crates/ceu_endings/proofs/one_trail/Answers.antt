use Rattle.ceu_endings.proofs.Shapes.{one_trail}
use Rattle.ceu_endings.proofs.one_trail.Goals as goal

pub returns : goal.returns
returns c = λ K d h x. one_trail K d h x
