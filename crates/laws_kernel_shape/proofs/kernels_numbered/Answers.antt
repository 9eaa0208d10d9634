use Rattle.laws_kernel_shape.proofs.Whole.{numbered}
use Rattle.laws_kernel_shape.proofs.Depths.{codes_outermost}
use Rattle.laws_kernel_shape.proofs.kernels_numbered.Goals as goal

pub returns : goal.returns
returns c = λ tree s t h. numbered s t tree (codes_outermost tree s h)
