use Rattle.laws_meaning_basics.proofs.RunFits.{done_fits}
use Rattle.laws_meaning_basics.proofs.command_fits.Goals as goal

pub returns : goal.returns
returns c = λ K n x c p h. done_fits K p n x c h
