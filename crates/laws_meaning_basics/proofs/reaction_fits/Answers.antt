use Rattle.laws_meaning_basics.proofs.RunFits.{steps_fit}
use Rattle.laws_meaning_basics.proofs.reaction_fits.Goals as goal

pub returns : goal.returns
returns c = λ K n c p h. steps_fit K p n c h
