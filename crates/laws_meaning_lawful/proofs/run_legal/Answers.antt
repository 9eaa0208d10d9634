use Rattle.laws_meaning_lawful.proofs.Lawful.{lawful}
use Rattle.laws_meaning_lawful.proofs.run_legal.Goals as goal

pub returns : goal.returns
returns c = λ K n xs r w p ts e. lawful K n xs r w p ts e
