use Rattle.laws_bounds_reach.proofs.Within.{async_within}
use Rattle.laws_bounds_reach.proofs.async_within.Goals as goal

pub returns : goal.returns
returns c = λ P E N S K g r codes h e. async_within K P E N S codes g r h e
