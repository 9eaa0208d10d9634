use Rattle.laws_meaning_assigned.proofs.OuterRuns.{run_outer}
use Rattle.laws_meaning_assigned.proofs.run_outer.Goals as goal

pub returns : goal.returns
returns c = λ K n xs p. run_outer K p n xs
