use Rattle.laws_meaning_counters.proofs.IntRuns.{boot_ints}
use Rattle.laws_meaning_counters.proofs.boot_ints.Goals as goal

pub returns : goal.returns
returns c = λ K. boot_ints K
