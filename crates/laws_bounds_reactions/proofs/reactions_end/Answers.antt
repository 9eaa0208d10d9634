use Rattle.laws_bounds_reactions.proofs.Ending.{reactions_end}
use Rattle.laws_bounds_reactions.proofs.reactions_end.Goals as goal

pub returns : goal.returns
returns c = λ K n r w p k h. reactions_end K p k n r w h
