use Rattle.laws_meaning_instances.proofs.Runs.{run_legal}
use Rattle.laws_meaning_instances.proofs.run_numbers_legal.Goals as goal

pub returns : goal.returns
returns c = λ K n xs r w p e. run_legal K n xs r w p e
