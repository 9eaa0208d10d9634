use Rattle.laws_meaning_finalizers.proofs.Runs.{boot_closes}
use Rattle.laws_meaning_finalizers.proofs.boot_closes.Goals as goal

pub returns : goal.returns
returns c = λ K k n f w p e. boot_closes K p k n f w e
