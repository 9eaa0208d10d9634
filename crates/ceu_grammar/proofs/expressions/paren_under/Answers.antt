use Rattle.std.proofs.Common.{refl}
use Rattle.ceu_grammar.proofs.Others as other
use Rattle.ceu_grammar.proofs.Moved.{refused}
use Rattle.ceu_grammar.proofs.expressions.paren_under.Goals as goal

pub returns-in-Paren : goal.returns-in-Paren
returns-in-Paren c = rw c.in-Paren.is refl

pub returns-in-Arguments : goal.returns-in-Arguments
returns-in-Arguments c = rw c.in-Arguments.is (c.argued.ensures)

pub returns-in-Emit : goal.returns-in-Emit
returns-in-Emit c = rw c.in-Emit.is refl

pub returns-in-Time : goal.returns-in-Time
returns-in-Time c = rw c.in-Time.is refl

pub returns-in_default : goal.returns-in_default
returns-in_default c = refused _ _ _ c.refuse.ensures (other.ends_paren c.args.e c.args.frame c.args.stack.now c.in_default.not-Paren c.in_default.not-Arguments c.in_default.not-Emit c.in_default.not-Time)
