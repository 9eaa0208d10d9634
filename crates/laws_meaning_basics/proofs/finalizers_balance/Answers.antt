use Rattle.laws_meaning_basics.proofs.RunBalance.{finalizers_balance}
use Rattle.laws_meaning_basics.proofs.finalizers_balance.Goals as goal

pub returns : goal.returns
returns c = λ K n xs p h. finalizers_balance K n xs p h
