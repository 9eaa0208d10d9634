use Rattle.laws_meaning_counters.proofs.CountersRuns.{run_all}
use Rattle.laws_meaning_counters.proofs.run_counters.Goals as goal

pub returns : goal.returns
returns c = λ K n xs p. run_all K p n xs
