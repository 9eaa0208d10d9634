use Rattle.laws_meaning_lawful.proofs.Lawful.{run_lawful}
use Rattle.laws_meaning_lawful.proofs.run_is_lawful.Goals as goal

pub returns : goal.returns
returns c = λ K n xs p q. run_lawful K p n xs q
