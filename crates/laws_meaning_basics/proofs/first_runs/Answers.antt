use Rattle.laws_meaning_basics.proofs.Order.{first_runs}
use Rattle.laws_meaning_basics.proofs.first_runs.Goals as goal

pub returns : goal.returns
returns c = λ n r. first_runs n r
