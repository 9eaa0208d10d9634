use Rattle.laws_meaning_counters.proofs.CountersRuns.{boot_stands}
use Rattle.laws_meaning_counters.proofs.boot_counters.Goals as goal

pub returns : goal.returns
returns c = λ K. boot_stands K
