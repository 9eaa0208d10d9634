use Rattle.laws_kernel_shape.proofs.Shaping.{shaped}
use Rattle.laws_kernel_shape.proofs.kernels_shaped.Goals as goal

pub returns : goal.returns
returns c = λ tree s t h. shaped s t tree h
