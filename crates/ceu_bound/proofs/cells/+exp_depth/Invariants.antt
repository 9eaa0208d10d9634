use Rattle.ceu_tree.proofs.Sizes.{exp_size}
use Rattle.ceu_bound.proofs.cells.+exp_depth.Given as goal

abbrev pub decreases-exp_depth : goal.decreases-exp_depth
decreases-exp_depth l = exp_size l.exp.now
