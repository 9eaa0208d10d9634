use Rattle.laws_kernel_shape.proofs.Depths.{codes_outermost}
use Rattle.laws_kernel_uses.proofs.Waiting.{tree_ends}
use Rattle.laws_kernel_uses.proofs.SettledWhole.{settles}
use Rattle.laws_kernel_uses.proofs.kernels_settled.Goals as goal

pub returns : goal.returns
returns c = λ tree s ts t h k. settles s t tree (codes_outermost tree s h) (tree_ends s t tree ts k) h
