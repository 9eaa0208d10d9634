use Rattle.laws_meaning_assigned.proofs.Runs.{run_set}
use Rattle.laws_meaning_assigned.proofs.run_set_legal.Goals as goal

pub returns : goal.returns
returns c = λ K n xs r w p e. run_set K p n xs r w e
