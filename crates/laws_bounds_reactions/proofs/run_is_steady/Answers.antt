use Rattle.laws_bounds_reactions.proofs.Runs.{run_steady}
use Rattle.laws_bounds_reactions.proofs.run_is_steady.Goals as goal

pub returns : goal.returns
returns c = λ K n xs p. run_steady K p n xs
