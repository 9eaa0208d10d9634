use Rattle.laws_bounds_reach.proofs.Within.{standing_pays}
use Rattle.laws_bounds_reach.proofs.standing_pays.Goals as goal

pub returns : goal.returns
returns c = λ P E N S K top r codes h b. standing_pays P E N S K top r codes h b
