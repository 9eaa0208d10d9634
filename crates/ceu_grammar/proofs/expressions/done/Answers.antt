use Rattle.std.proofs.Common.{sym, ap}
use Rattle.ceu_syntax.specs.Steps as spec
use Rattle.ceu_grammar.proofs.Moved.{moves_as, reduce_stops}
use Rattle.ceu_grammar.proofs.expressions.done.Goals as goal

pub returns-in-Ok : goal.returns-in-Ok
returns-in-Ok c = moves_as _ _ _ _ (ap (λ h. spec.ends c.args.kind c.args.pos h) (sym c.in-Ok.ensures)) c.ends.ensures

pub returns-in-Err : goal.returns-in-Err
returns-in-Err c = reduce_stops _ _ _ _ _ c.in-Err.ensures
