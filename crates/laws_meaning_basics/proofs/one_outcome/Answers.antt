use Rattle.laws_meaning_basics.proofs.StepLaws.{one_outcome}
use Rattle.laws_meaning_basics.proofs.one_outcome.Goals as goal

pub returns : goal.returns
returns c = λ K xs ms ns s t a b. one_outcome K xs ms ns s t a b
