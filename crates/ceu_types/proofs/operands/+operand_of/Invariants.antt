use Rattle.ceu_types.proofs.Sizes.{exp_size}
use Rattle.ceu_types.proofs.operands.+operand_of.Given as goal

abbrev pub decreases-operand_of : goal.decreases-operand_of
decreases-operand_of l = exp_size l.exp.now
