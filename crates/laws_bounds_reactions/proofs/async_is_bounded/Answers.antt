use Rattle.laws_bounds_reactions.proofs.Bounded.{async_bounded}
use Rattle.laws_bounds_reactions.proofs.async_is_bounded.Goals as goal

pub returns : goal.returns
returns c = λ K b g r w u p k h e q. async_bounded K p k b g r w u h e q
