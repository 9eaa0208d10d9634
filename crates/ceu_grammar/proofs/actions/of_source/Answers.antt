use Rattle.std.proofs.Common.{refl}
use Rattle.ceu_grammar.proofs.Others as other
use Rattle.ceu_grammar.proofs.actions.of_source.Goals as goal

pub returns-in-Await : goal.returns-in-Await
returns-in-Await c = rw c.in-Await.is refl

pub returns-in-Spawn : goal.returns-in-Spawn
returns-in-Spawn c = rw c.in-Spawn.is (c.pushed.ensures)

pub returns-in-Do : goal.returns-in-Do
returns-in-Do c = rw c.in-Do.is refl

pub returns-in_default : goal.returns-in_default
returns-in_default c = rw (other.of_source c.args.kind c.args.pos c.args.stack.now c.in_default.not-Await c.in_default.not-Spawn c.in_default.not-Do) (c.starts.ensures)
