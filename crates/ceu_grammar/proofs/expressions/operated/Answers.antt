use Rattle.std.proofs.Common.{sym, ap, Some}
use Rattle.ceu_syntax.specs.Steps as spec
use Rattle.ceu_grammar.proofs.Moved.{moves_as, reduce_stops}
use Rattle.ceu_grammar.proofs.expressions.operated.Goals as goal

pub returns-in-Ok : goal.returns-in-Ok
returns-in-Ok c = let e = rw c.level.ensures at c.in-Ok.ensures in moves_as _ _ _ _ (ap (λ h. Some (spec.pushed c.args.op c.args.pos h)) (sym e)) c.pushed.ensures

pub returns-in-Err : goal.returns-in-Err
returns-in-Err c = reduce_stops _ _ _ _ _ c.in-Err.ensures
