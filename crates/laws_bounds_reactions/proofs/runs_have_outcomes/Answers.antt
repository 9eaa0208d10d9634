use Rattle.laws_bounds_reactions.proofs.Runs.{run_outcome}
use Rattle.laws_bounds_reactions.proofs.runs_have_outcomes.Goals as goal

pub returns : goal.returns
returns c = λ K xs p k. run_outcome K p k xs
