use Rattle.laws_meaning_counters.proofs.CountersRuns.{next_all}
use Rattle.laws_meaning_counters.proofs.step_counters.Goals as goal

pub returns : goal.returns
returns c = λ K d p t i h. next_all K p d t i h
