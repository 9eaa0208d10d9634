use Rattle.std.proofs.Common.{sym, ap}
use Rattle.ceu_syntax.specs.Trees as tree
use Rattle.ceu_syntax.specs.Steps.{reduce}
use Rattle.ceu_grammar.proofs.expressions.prefix_folded.Goals as goal

pub returns-in-Ok : goal.returns-in-Ok
returns-in-Ok c K = ap (λ u. reduce c.args.least (tree.one c.args.op c.args.pos u) K) (sym c.in-Ok.ensures)
