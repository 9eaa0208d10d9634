use Rattle.laws_machine_order.proofs.Whole.{first_stands}
use Rattle.laws_machine_order.proofs.first_stands.Goals as goal

pub returns : goal.returns
returns c = λ image t home r w bytes n x. first_stands image t home r w bytes n x
