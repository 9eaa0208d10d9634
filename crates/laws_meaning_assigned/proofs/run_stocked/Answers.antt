use Rattle.laws_meaning_assigned.proofs.Runs.{run_all}
use Rattle.laws_meaning_assigned.proofs.run_stocked.Goals as goal

pub returns : goal.returns
returns c = λ K n xs p. run_all K p n xs
