use Rattle.std.proofs.Common.{refl}
use Rattle.ceu_grammar.proofs.Others as other
use Rattle.ceu_grammar.proofs.actions.of_await.Goals as goal

pub returns-in-Forever : goal.returns-in-Forever
returns-in-Forever c = rw c.in-Forever.is refl

pub returns-in-Async : goal.returns-in-Async
returns-in-Async c = rw c.in-Async.is (c.in_statement.ensures)

pub returns-in-Abs : goal.returns-in-Abs
returns-in-Abs c = rw c.in-Abs.is (rw c.ident.ensures refl)

pub returns-in_default : goal.returns-in_default
returns-in_default c = rw (other.of_await c.args.kind c.args.pos c.args.stack.now c.in_default.not-Forever c.in_default.not-Async c.in_default.not-Abs) (c.of_target.ensures)
