use Rattle.laws_machine_code.proofs.Lines.{lines_are_placed}
use Rattle.laws_machine_code.proofs.lines_are_placed.Goals as goal

pub returns : goal.returns
returns c = lines_are_placed
