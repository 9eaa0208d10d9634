use Rattle.laws_meaning_types.proofs.Runs.{run_types}
use Rattle.laws_meaning_types.proofs.run_typed.Goals as goal

pub returns : goal.returns
returns y = λ K n xs p q. run_types K n xs p q
