use Rattle.laws_meaning_basics.proofs.RunFits.{booted_fits}
use Rattle.laws_meaning_basics.proofs.boot_fits.Goals as goal

pub returns : goal.returns
returns c = λ K h. booted_fits K h
