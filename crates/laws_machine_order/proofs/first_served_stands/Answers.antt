use Rattle.laws_machine_order.proofs.Whole.{first_served_stands}
use Rattle.laws_machine_order.proofs.first_served_stands.Goals as goal

pub returns : goal.returns
returns c = λ image t home r w bytes x. first_served_stands image t home r w bytes x
