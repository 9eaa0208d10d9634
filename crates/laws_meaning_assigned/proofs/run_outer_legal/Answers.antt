use Rattle.laws_meaning_assigned.proofs.OuterRuns.{run_outer_legal}
use Rattle.laws_meaning_assigned.proofs.run_outer_legal.Goals as goal

pub returns : goal.returns
returns c = λ K n xs r w p e. run_outer_legal K p n xs r w e
