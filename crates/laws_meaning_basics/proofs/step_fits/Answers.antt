use Rattle.laws_meaning_basics.proofs.RunFits.{next_fits}
use Rattle.laws_meaning_basics.proofs.step_fits.Goals as goal

pub returns : goal.returns
returns c = λ K c p h. next_fits K p c h
