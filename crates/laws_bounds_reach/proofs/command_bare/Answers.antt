use Rattle.laws_bounds_reach.proofs.BareRuns.{done_bare}
use Rattle.laws_bounds_reach.proofs.command_bare.Goals as goal

pub returns : goal.returns
returns c = λ K n x c p t h. done_bare K p n x c t h
