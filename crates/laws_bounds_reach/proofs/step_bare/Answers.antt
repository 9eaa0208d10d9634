use Rattle.laws_bounds_reach.proofs.BareRuns.{next_bare}
use Rattle.laws_bounds_reach.proofs.step_bare.Goals as goal

pub returns : goal.returns
returns c = λ K c p t h. next_bare K p c t h
