use Rattle.laws_meaning_counters.proofs.CountersRuns.{run_legal}
use Rattle.laws_meaning_counters.proofs.run_counters_legal.Goals as goal

pub returns : goal.returns
returns c = λ K n xs r w found p e t. run_legal K n xs r w found p e t
