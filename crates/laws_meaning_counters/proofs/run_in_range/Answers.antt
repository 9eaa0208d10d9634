use Rattle.laws_meaning_counters.proofs.RangesRuns.{run_kept}
use Rattle.laws_meaning_counters.proofs.run_in_range.Goals as goal

pub returns : goal.returns
returns c = λ K n xs. run_kept K n xs
