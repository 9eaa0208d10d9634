use Rattle.ceu_grammar.proofs.Others as other
use Rattle.ceu_grammar.proofs.Moved.{exhausted}
use Rattle.ceu_grammar.proofs.actions.of_arguments.Goals as goal

pub returns-in-CloseParen : goal.returns-in-CloseParen
returns-in-CloseParen c = rw c.in-CloseParen.is (rw c.new.ensures at c.called.ensures)

pub returns-in-Ok : goal.returns-in-Ok
returns-in-Ok c = rw (other.of_arguments c.args.kind c.args.pos c.args.code c.args.stack.now c.in_default.not-CloseParen) ((rw (c.in-Ok.ensures.ok, c.new-in_default.ensures) at c.starts.ensures))

pub returns-in-Err : goal.returns-in-Err
returns-in-Err c = exhausted _ _ _ c.exhaust.ensures
