use Rattle.laws_meaning_lawful.proofs.Lawful.{done_lawful}
use Rattle.laws_meaning_lawful.proofs.command_is_lawful.Goals as goal

pub returns : goal.returns
returns c = λ K n x c p q h. done_lawful K p n x c q h
