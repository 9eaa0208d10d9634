use Rattle.std.proofs.Common.{refl}
use Rattle.ceu_grammar.proofs.Others as other
use Rattle.ceu_grammar.proofs.Moved.{refused}
use Rattle.ceu_grammar.proofs.expressions.operand.Goals as goal

pub returns-in-Number : goal.returns-in-Number
returns-in-Number c = rw c.in-Number.is (rw c.number.ensures refl)

pub returns-in-Lower : goal.returns-in-Lower
returns-in-Lower c = rw c.in-Lower.is refl

pub returns-in-Truth : goal.returns-in-Truth
returns-in-Truth c = rw c.in-Truth.is (rw c.truth.ensures refl)

pub returns-in-Outer : goal.returns-in-Outer
returns-in-Outer c = rw c.in-Outer.is refl

pub returns-in-OpenParen : goal.returns-in-OpenParen
returns-in-OpenParen c = rw c.in-OpenParen.is (c.pushed.ensures)

pub returns-in_default : goal.returns-in_default
returns-in_default c = refused _ _ _ c.refuse.ensures (other.operand c.args.kind c.args.pos c.args.stack.now c.in_default.not-Number c.in_default.not-Lower c.in_default.not-Truth c.in_default.not-Outer c.in_default.not-OpenParen)
