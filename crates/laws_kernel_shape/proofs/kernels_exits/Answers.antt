use Rattle.laws_kernel_shape.proofs.Depths.{codes_outermost}
use Rattle.laws_kernel_shape.proofs.Bodies.{stands}
use Rattle.laws_kernel_shape.proofs.kernels_exits.Goals as goal

pub returns : goal.returns
returns c = λ tree s ts t h k. stands s t tree (codes_outermost tree s h) ts k
