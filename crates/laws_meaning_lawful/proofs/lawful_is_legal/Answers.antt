use Rattle.laws_meaning_lawful.proofs.Lawful.{waits_legal}
use Rattle.laws_meaning_lawful.proofs.lawful_is_legal.Goals as goal

pub returns : goal.returns
returns c = λ K r w p h. waits_legal K p r w h
