use Rattle.laws_bounds_reach.proofs.BareRuns.{run_bare}
use Rattle.laws_bounds_reach.proofs.run_bare.Goals as goal

pub returns : goal.returns
returns c = λ K n xs p. run_bare K p n xs
