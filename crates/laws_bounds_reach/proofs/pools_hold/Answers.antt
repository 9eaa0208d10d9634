use Rattle.laws_bounds_reach.proofs.Pools.{hold}
use Rattle.laws_bounds_reach.proofs.pools_hold.Goals as goal

pub returns : goal.returns
returns c = λ weigh ds all h. hold weigh ds all h
