use Rattle.laws_meaning_assigned.proofs.Runs.{next_all}
use Rattle.laws_meaning_assigned.proofs.step_stocked.Goals as goal

pub returns : goal.returns
returns c = λ K d p t i h. next_all K p d t i h
