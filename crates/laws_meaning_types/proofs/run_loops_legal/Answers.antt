use Rattle.laws_meaning_types.proofs.Runs.{loops_are}
use Rattle.laws_meaning_types.proofs.run_loops_legal.Goals as goal

pub returns : goal.returns
returns y = λ K n xs r w found p q e. loops_are K n xs r w found p q e
