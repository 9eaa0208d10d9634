use Rattle.laws_bounds_reach.proofs.BareRuns.{booted_bare}
use Rattle.laws_bounds_reach.proofs.boot_bare.Goals as goal

pub returns : goal.returns
returns c = λ K. booted_bare K
