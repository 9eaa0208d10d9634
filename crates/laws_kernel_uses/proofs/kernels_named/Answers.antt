use Rattle.laws_kernel_shape.proofs.Depths.{codes_outermost}
use Rattle.laws_kernel_shape.proofs.Bodies.{stands}
use Rattle.laws_kernel_uses.proofs.NamedWhole.{named}
use Rattle.laws_kernel_uses.proofs.kernels_named.Goals as goal

pub returns : goal.returns
returns c = λ tree s ts t h k. let o = codes_outermost tree s h in named s t tree o h (stands s t tree o ts k)
