use Rattle.laws_kernel_proper.proofs.Placing.{placed}
use Rattle.laws_kernel_proper.proofs.trees_derived.Goals as goal

pub returns : goal.returns
returns c = placed
