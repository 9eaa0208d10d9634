use Rattle.laws_bounds_reach.proofs.Within.{input_within}
use Rattle.laws_bounds_reach.proofs.input_within.Goals as goal

pub returns : goal.returns
returns c = λ P E N S K event v r codes h. input_within K P E N S codes event v r h
