use Rattle.laws_machine_order.proofs.Ages.{older_in_bodies}
use Rattle.laws_machine_order.proofs.older_in_bodies.Goals as goal

pub returns : goal.returns
returns c = λ codes r p d. older_in_bodies codes r p d
