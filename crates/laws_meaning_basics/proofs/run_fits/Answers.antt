use Rattle.laws_meaning_basics.proofs.RunFits.{run_fits}
use Rattle.laws_meaning_basics.proofs.run_fits.Goals as goal

pub returns : goal.returns
returns c = λ K n xs p. run_fits K p n xs
