use Rattle.laws_machine_code.proofs.Lines.{parts_are_placed}
use Rattle.laws_machine_code.proofs.parts_are_placed.Goals as goal

pub returns : goal.returns
returns c = parts_are_placed
