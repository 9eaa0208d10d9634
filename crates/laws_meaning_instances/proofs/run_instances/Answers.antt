use Rattle.laws_meaning_instances.proofs.Runs.{run_stands}
use Rattle.laws_meaning_instances.proofs.run_instances.Goals as goal

pub returns : goal.returns
returns c = λ K n xs p. run_stands K p n xs
