use Rattle.laws_bounds_reach.proofs.Awake.{woken_ways}
use Rattle.laws_bounds_reach.proofs.Stands.{woken_counted, woken_pools}
use Rattle.laws_bounds_reach.proofs.waking_stays.Goals as goal

pub returns : goal.returns
returns c = λ P n f r code e v. record { ways_same = woken_ways n e v P code f r; counted = woken_counted n e v code f r; pools = woken_pools n e v code f r }
