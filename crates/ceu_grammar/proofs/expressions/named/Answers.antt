use Rattle.std.proofs.Common.{refl}
use Rattle.ceu_grammar.proofs.Others as other
use Rattle.ceu_grammar.proofs.expressions.named.Goals as goal

pub returns-in-Question : goal.returns-in-Question
returns-in-Question c = rw c.in-Question.is (rw c.alive.ensures (rw c.ident.ensures refl))

pub returns-in_default : goal.returns-in_default
returns-in_default c = rw (other.of_named c.args.kind c.args.pos c.args.name c.args.before c.args.stack.now c.in_default.not-Question) ((rw (c.variable.ensures, c.ident-in_default.ensures) at c.follows.ensures))
