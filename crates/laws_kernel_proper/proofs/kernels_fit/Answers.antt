use Rattle.laws_kernel_proper.proofs.Fitting.{fits}
use Rattle.laws_kernel_proper.proofs.kernels_fit.Goals as goal

pub returns : goal.returns
returns c = fits
