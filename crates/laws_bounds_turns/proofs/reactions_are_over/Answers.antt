use Rattle.laws_bounds_turns.proofs.Reactions.{reaction_ends}
use Rattle.laws_bounds_turns.proofs.reactions_are_over.Goals as goal

pub returns : goal.returns
returns c = λ K turns n r w kept leave h m b. reaction_ends K kept leave turns n r w h m b
