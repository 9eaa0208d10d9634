use Rattle.laws_kernel_shape.proofs.Depths.{codes_outermost}
use Rattle.laws_kernel_names.proofs.Whole.{sees}
use Rattle.laws_kernel_names.proofs.kernels_seen.Goals as goal

pub returns : goal.returns
returns c = λ tree s t h. sees s t tree (codes_outermost tree s h) h
