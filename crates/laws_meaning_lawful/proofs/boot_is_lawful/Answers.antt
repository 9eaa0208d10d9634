use Rattle.laws_meaning_lawful.proofs.Lawful.{booted_lawful}
use Rattle.laws_meaning_lawful.proofs.boot_is_lawful.Goals as goal

pub returns : goal.returns
returns c = λ K p. booted_lawful K p
