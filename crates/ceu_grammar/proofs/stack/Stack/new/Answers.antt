use Rattle.std.proofs.Common.{sym}
use Rattle.ceu_grammar.proofs.Levels.{no_levels}
use Rattle.ceu_grammar.proofs.stack.Stack.new.Goals as goal

pub invariant_of-result : goal.invariant_of-result
invariant_of-result c = rw c.new.ensures.items (sym no_levels)
