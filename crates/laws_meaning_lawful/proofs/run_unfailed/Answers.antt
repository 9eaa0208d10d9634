use Rattle.laws_meaning_lawful.proofs.Lawful.{unfailed}
use Rattle.laws_meaning_lawful.proofs.run_unfailed.Goals as goal

pub returns : goal.returns
returns c = λ K n xs r w p e. unfailed K n xs r w p e
