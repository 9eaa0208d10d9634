use Rattle.std.proofs.Common.{ap}
use Rattle.ceu_syntax.specs.Steps as spec
use Rattle.ceu_grammar.proofs.Moved.{exhausted, moves_as}
use Rattle.ceu_grammar.proofs.expressions.argued.Goals as goal

pub returns-in-Ok : goal.returns-in-Ok
returns-in-Ok c = moves_as _ _ _ _ (ap (λ l. spec.called c.args.code l c.args.stack.now) c.in-Ok.ensures) c.called.ensures

pub returns-in-Err : goal.returns-in-Err
returns-in-Err c = exhausted _ _ _ c.exhaust.ensures
