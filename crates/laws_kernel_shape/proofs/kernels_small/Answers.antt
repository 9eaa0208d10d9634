use Rattle.laws_kernel_shape.proofs.Small.{small}
use Rattle.laws_kernel_shape.proofs.Depths.{codes_outermost}
use Rattle.laws_kernel_shape.proofs.kernels_small.Goals as goal

pub returns : goal.returns
returns c = λ tree s t h. small s t tree (codes_outermost tree s h)
