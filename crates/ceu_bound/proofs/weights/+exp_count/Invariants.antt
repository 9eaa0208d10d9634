use Rattle.ceu_tree.proofs.Sizes.{exp_size}
use Rattle.ceu_bound.proofs.weights.+exp_count.Given as goal

abbrev pub decreases-exp_count : goal.decreases-exp_count
decreases-exp_count l = exp_size l.exp.now
