use Rattle.laws_code_placed.proofs.Operands.{shape_placed}
use Rattle.laws_code_placed.proofs.shape_is_placed.Goals as goal

pub returns : goal.returns
returns c = shape_placed
