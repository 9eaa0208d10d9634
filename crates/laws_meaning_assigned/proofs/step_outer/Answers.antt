use Rattle.laws_meaning_assigned.proofs.OuterRuns.{next_outer}
use Rattle.laws_meaning_assigned.proofs.step_outer.Goals as goal

pub returns : goal.returns
returns c = λ K d p t h. next_outer K p d t h
