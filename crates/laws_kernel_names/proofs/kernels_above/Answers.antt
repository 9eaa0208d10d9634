use Rattle.laws_kernel_shape.proofs.Depths.{codes_outermost}
use Rattle.laws_kernel_names.proofs.InnerDepths.{tree_outer}
use Rattle.laws_kernel_names.proofs.UsingCodes.{above}
use Rattle.laws_kernel_names.proofs.kernels_above.Goals as goal

pub returns : goal.returns
returns c = λ tree s t h. above s t tree (codes_outermost tree s h) (tree_outer tree s h) h
