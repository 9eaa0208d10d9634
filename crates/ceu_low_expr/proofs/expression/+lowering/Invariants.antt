use Rattle.std.proofs.Common.{ℕ, ◌+◌, ◌*◌}
use Rattle.ceu_tree.proofs.Sizes.{exp_size}
use Rattle.ceu_low_expr.proofs.expression.+lowering.Given as goal

abbrev pub decreases-lower_exp : goal.decreases-lower_exp
decreases-lower_exp g l = 3 * exp_size l.exp.now

abbrev pub decreases-lower_two : goal.decreases-lower_two
decreases-lower_two g l = 3 * (exp_size l.left.now + exp_size l.right.now) + 2

abbrev pub decreases-lower_binary : goal.decreases-lower_binary
decreases-lower_binary g l = 3 * (exp_size l.left.now + exp_size l.right.now) + 1

abbrev pub decreases-lower_and : goal.decreases-lower_and
decreases-lower_and g l = 3 * (exp_size l.left.now + exp_size l.right.now) + 1

abbrev pub decreases-lower_or : goal.decreases-lower_or
decreases-lower_or g l = 3 * (exp_size l.left.now + exp_size l.right.now) + 1
