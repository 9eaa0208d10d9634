use Rattle.laws_meaning_basics.proofs.RunBalance.{finalizers_at_most}
use Rattle.laws_meaning_basics.proofs.finalizers_at_most.Goals as goal

pub returns : goal.returns
returns c = λ K n xs p. finalizers_at_most K n xs p
