use Rattle.std.proofs.Common.{suc, ◌+◌}
use Rattle.ceu_print.proofs.Sizes.{node_size}
use Rattle.ceu_print.proofs.expressions.+expression.Given as goal

abbrev pub decreases-put_node : goal.decreases-put_node
decreases-put_node l = node_size l.node.now

abbrev pub decreases-put_exp_at : goal.decreases-put_exp_at
decreases-put_exp_at l = suc (node_size l.e.now.node)

abbrev pub decreases-put_one : goal.decreases-put_one
decreases-put_one l = suc (suc (node_size l.a.now.node))

abbrev pub decreases-put_two : goal.decreases-put_two
decreases-put_two l = suc (suc (node_size l.a.now.node)) + suc (suc (node_size l.b.now.node))

abbrev pub decreases-put_cast : goal.decreases-put_cast
decreases-put_cast l = suc (suc (node_size l.a.now.node))
