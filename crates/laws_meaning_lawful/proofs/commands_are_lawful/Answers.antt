use Rattle.laws_meaning_lawful.proofs.Lawful.{all_lawful}
use Rattle.laws_meaning_lawful.proofs.commands_are_lawful.Goals as goal

pub returns : goal.returns
returns c = λ K n xs c p q h. all_lawful K p n xs c q h
