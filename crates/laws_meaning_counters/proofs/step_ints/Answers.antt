use Rattle.laws_meaning_counters.proofs.IntRuns.{next_ints}
use Rattle.laws_meaning_counters.proofs.step_ints.Goals as goal

pub returns : goal.returns
returns c = λ K d p t e h. next_ints K p d t e h
