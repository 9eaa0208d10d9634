use Rattle.laws_meaning_lawful.proofs.Lawful.{fitting}
use Rattle.laws_meaning_lawful.proofs.fitting_stands.Goals as goal

pub returns : goal.returns
returns c = λ K r w found p t x g j s q. fitting K r w found p t x g j s q
