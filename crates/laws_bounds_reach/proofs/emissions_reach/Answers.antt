use Rattle.laws_bounds_reach.proofs.Reach.{reaches}
use Rattle.laws_bounds_reach.proofs.emissions_reach.Goals as goal

pub returns : goal.returns
returns c = λ P E N K n f s e x proper fits stand at emits. reaches P E N K n f s e x proper fits stand at emits
