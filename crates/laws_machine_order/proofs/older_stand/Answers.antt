use Rattle.laws_machine_order.proofs.Bodies.{older_stand}
use Rattle.laws_machine_order.proofs.older_stand.Goals as goal

pub returns : goal.returns
returns c = λ image t o home r w bytes p. older_stand image t o home r w bytes p
