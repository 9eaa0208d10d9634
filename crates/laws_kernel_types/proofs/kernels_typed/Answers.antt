use Rattle.laws_kernel_shape.proofs.Depths.{codes_outermost}
use Rattle.laws_kernel_types.proofs.Bodies.{kernel_typed}
use Rattle.laws_kernel_types.proofs.kernels_typed.Goals as goal

pub returns : goal.returns
returns c = λ tree s t h k z. kernel_typed s t tree (codes_outermost tree s h) h k z
