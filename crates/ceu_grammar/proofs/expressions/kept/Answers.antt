use Rattle.std.proofs.Common.{sym, ap}
use Rattle.ceu_syntax.specs.Steps.{held}
use Rattle.ceu_grammar.proofs.Moved.{unreduced}
use Rattle.ceu_grammar.proofs.expressions.kept.Goals as goal

pub returns-in-Ok : goal.returns-in-Ok
returns-in-Ok c = ap (λ l. held c.args.e l) (sym c.in-Ok.ensures.ok)

pub returns-in-Err : goal.returns-in-Err
returns-in-Err c = unreduced _ _ _ c.memory.ensures
