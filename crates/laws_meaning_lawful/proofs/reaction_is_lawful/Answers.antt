use Rattle.laws_meaning_lawful.proofs.Lawful.{steps_lawful}
use Rattle.laws_meaning_lawful.proofs.reaction_is_lawful.Goals as goal

pub returns : goal.returns
returns c = λ K n c p h. steps_lawful K p n c h
