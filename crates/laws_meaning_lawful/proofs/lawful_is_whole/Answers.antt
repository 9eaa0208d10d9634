use Rattle.laws_meaning_lawful.proofs.Lawful.{whole}
use Rattle.laws_meaning_lawful.proofs.lawful_is_whole.Goals as goal

pub returns : goal.returns
returns c = λ K n f w p h. whole K n f w p h
