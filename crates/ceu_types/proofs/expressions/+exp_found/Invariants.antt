use Rattle.ceu_types.proofs.Sizes.{exp_size}
use Rattle.ceu_types.proofs.expressions.+exp_found.Given as goal

abbrev pub decreases-exp_found : goal.decreases-exp_found
decreases-exp_found l = exp_size l.exp.now
