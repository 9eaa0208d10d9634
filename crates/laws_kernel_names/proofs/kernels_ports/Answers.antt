use Rattle.laws_kernel_names.proofs.PortLaws.{ports}
use Rattle.laws_kernel_names.proofs.InnerDepths.{tree_outer}
use Rattle.laws_kernel_names.proofs.kernels_ports.Goals as goal

pub returns : goal.returns
returns c = λ tree s t h k. ports s t tree (tree_outer tree s h) s h k
