use Rattle.laws_machine_order.proofs.Ages.{trails_told}
use Rattle.laws_machine_order.proofs.trails_told.Goals as goal

pub returns : goal.returns
returns c = λ image t o home codes r w bytes p x once. trails_told image t o home codes r w bytes p x once
