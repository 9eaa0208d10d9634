use Rattle.laws_meaning_counters.proofs.RangesRuns.{next_kept}
use Rattle.laws_meaning_counters.proofs.step_in_range.Goals as goal

pub returns : goal.returns
returns c = λ K c h. next_kept K c h
