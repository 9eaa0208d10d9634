use Rattle.laws_meaning_basics.proofs.StepLaws.{runs_stand}
use Rattle.laws_meaning_basics.proofs.runs_stand.Goals as goal

pub returns : goal.returns
returns c = λ K n k xs h e. runs_stand K n k xs h e
