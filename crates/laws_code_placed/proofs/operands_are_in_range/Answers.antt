use Rattle.laws_code_placed.proofs.Operands.{operands_in_range}
use Rattle.laws_code_placed.proofs.operands_are_in_range.Goals as goal

pub returns : goal.returns
returns c = operands_in_range
