use Rattle.std.proofs.Common.{refl}
use Rattle.ceu_grammar.proofs.Others as other
use Rattle.ceu_grammar.proofs.Moved.{exhausted}
use Rattle.ceu_grammar.proofs.actions.of_emit_value.Goals as goal

pub returns-in-CloseParen : goal.returns-in-CloseParen
returns-in-CloseParen c = rw c.in-CloseParen.is refl

pub returns-in-Ok : goal.returns-in-Ok
returns-in-Ok c = rw (other.of_emit_value c.args.kind c.args.pos c.args.x c.args.stack.now c.in_default.not-CloseParen) ((rw c.in-Ok.ensures.ok at c.starts.ensures))

pub returns-in-Err : goal.returns-in-Err
returns-in-Err c = exhausted _ _ _ c.exhaust.ensures
