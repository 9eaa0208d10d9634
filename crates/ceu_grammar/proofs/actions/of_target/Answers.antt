use Rattle.std.proofs.Common.{refl}
use Rattle.ceu_grammar.proofs.Others as other
use Rattle.ceu_grammar.proofs.Moved.{refused}
use Rattle.ceu_grammar.proofs.actions.of_target.Goals as goal

pub returns-in-Ext : goal.returns-in-Ext
returns-in-Ext c = rw c.in-Ext.is (rw c.ident.ensures at c.aimed.ensures)

pub returns-in-Lower : goal.returns-in-Lower
returns-in-Lower c = rw c.in-Lower.is (rw c.ident-in-Lower.ensures at c.aimed-in-Lower.ensures)

pub returns-in-Time : goal.returns-in-Time
returns-in-Time c = rw c.in-Time.is (c.aimed-in-Time.ensures)

pub returns-in-OpenParen : goal.returns-in-OpenParen
returns-in-OpenParen c = rw c.in-OpenParen.is (c.pushed.ensures)

pub returns-in-Outer : goal.returns-in-Outer
returns-in-Outer c = rw c.in-Outer.is refl

pub returns-in_default : goal.returns-in_default
returns-in_default c = refused _ _ _ c.refuse.ensures (other.of_target c.args.kind c.args.pos c.args.stack.now c.in_default.not-Ext c.in_default.not-Lower c.in_default.not-Time c.in_default.not-OpenParen c.in_default.not-Outer)
