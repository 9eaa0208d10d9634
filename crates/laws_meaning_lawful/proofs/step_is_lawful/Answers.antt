use Rattle.laws_meaning_lawful.proofs.Lawful.{next_lawful}
use Rattle.laws_meaning_lawful.proofs.step_is_lawful.Goals as goal

pub returns : goal.returns
returns c = λ K c p h. next_lawful K p c h
