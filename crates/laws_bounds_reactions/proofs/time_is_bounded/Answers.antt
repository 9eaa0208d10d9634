use Rattle.laws_bounds_reactions.proofs.Bounded.{time_bounded}
use Rattle.laws_bounds_reactions.proofs.time_is_bounded.Goals as goal

pub returns : goal.returns
returns c = λ K d m r w p k h. time_bounded K p k d m r w h
