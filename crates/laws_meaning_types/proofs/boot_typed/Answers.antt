use Rattle.laws_meaning_types.proofs.Runs.{boot_types}
use Rattle.laws_meaning_types.proofs.boot_typed.Goals as goal

pub returns : goal.returns
returns y = λ K. boot_types K
