use Rattle.laws_bounds_reach.proofs.Within.{time_within}
use Rattle.laws_bounds_reach.proofs.time_within.Goals as goal

pub returns : goal.returns
returns c = λ P E N S K delay d r codes h. time_within K P E N S codes delay d r h
