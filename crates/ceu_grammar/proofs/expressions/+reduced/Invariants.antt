use Rattle.std.proofs.Common.{length}
use Rattle.ceu_grammar.proofs.expressions.+reduced.Given as goal

abbrev pub decreases-reduced : goal.decreases-reduced
decreases-reduced l = length l.stack.now
