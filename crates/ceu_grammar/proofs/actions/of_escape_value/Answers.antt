use Rattle.ceu_grammar.proofs.Others as other
use Rattle.ceu_grammar.proofs.Moved.{exhausted}
use Rattle.ceu_grammar.proofs.actions.of_escape_value.Goals as goal

pub returns-in-Semicolon : goal.returns-in-Semicolon
returns-in-Semicolon c = rw c.in-Semicolon.is (c.closed.ensures)

pub returns-in-Ok : goal.returns-in-Ok
returns-in-Ok c = rw (other.of_escape_value c.args.kind c.args.pos c.args.label c.args.stack.now c.in_default.not-Semicolon) ((rw c.in-Ok.ensures.ok at c.starts.ensures))

pub returns-in-Err : goal.returns-in-Err
returns-in-Err c = exhausted _ _ _ c.exhaust.ensures
