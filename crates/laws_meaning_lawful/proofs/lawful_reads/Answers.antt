use Rattle.laws_meaning_lawful.proofs.Lawful.{reads}
use Rattle.laws_meaning_lawful.proofs.lawful_reads.Goals as goal

pub returns : goal.returns
returns c = λ K n f w p h. reads K n f w p h
