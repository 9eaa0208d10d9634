use Rattle.laws_bounds_turns.proofs.Ending.{serving_ends}
use Rattle.laws_bounds_turns.proofs.servings_end.Goals as goal

pub returns : goal.returns
returns c = λ K root f w proper. serving_ends K root f w proper
