use Rattle.laws_bounds_reactions.proofs.Bounded.{input_bounded}
use Rattle.laws_bounds_reactions.proofs.input_is_bounded.Goals as goal

pub returns : goal.returns
returns c = λ K event v r w p k h. input_bounded K p k event v r w h
