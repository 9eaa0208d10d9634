use Rattle.laws_kernel_proper.proofs.Whole.{proper}
use Rattle.laws_kernel_proper.proofs.kernels_proper.Goals as goal

pub returns : goal.returns
returns c = proper
