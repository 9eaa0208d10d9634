use Rattle.laws_meaning_basics.proofs.RunFits.{step_whole}
use Rattle.laws_meaning_basics.proofs.step_whole.Goals as goal

pub returns : goal.returns
returns c = λ K n f w p h. step_whole K p n f w h
