use Rattle.laws_meaning_basics.proofs.StepLaws.{steps_stand}
use Rattle.laws_meaning_basics.proofs.reactions_stand.Goals as goal

pub returns : goal.returns
returns c = λ K n k c h e. steps_stand K n k c h e
