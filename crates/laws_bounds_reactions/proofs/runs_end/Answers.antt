use Rattle.laws_bounds_reactions.proofs.Runs.{runs_end}
use Rattle.laws_bounds_reactions.proofs.runs_end.Goals as goal

pub returns : goal.returns
returns c = λ K xs p k. runs_end K p k xs
