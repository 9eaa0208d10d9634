use Rattle.laws_kernel_shape.proofs.EventLaws.{events}
use Rattle.laws_kernel_shape.proofs.Depths.{codes_outermost}
use Rattle.laws_kernel_shape.proofs.kernels_events.Goals as goal

pub returns : goal.returns
returns c = λ tree s t h. events s t tree (codes_outermost tree s h)
