use Rattle.std.proofs.Common.{refl}
use Rattle.ceu_grammar.proofs.Others as other
use Rattle.ceu_grammar.proofs.blocks.in_block.Goals as goal

pub returns-in-Semicolon : goal.returns-in-Semicolon
returns-in-Semicolon c = rw c.in-Semicolon.is refl

pub returns-in-Lower : goal.returns-in-Lower
returns-in-Lower c = rw c.in-Lower.is (rw c.ident.ensures at c.pushed.ensures)

pub returns-in-End : goal.returns-in-End
returns-in-End c = rw c.in-End.is (c.ended.ensures)

pub returns-in-With : goal.returns-in-With
returns-in-With c = rw c.in-With.is (c.another.ensures)

pub returns-in-Else : goal.returns-in-Else
returns-in-Else c = rw c.in-Else.is (c.other.ensures)

pub returns-in-Outer : goal.returns-in-Outer
returns-in-Outer c = rw c.in-Outer.is (c.pushed-in-Outer.ensures)

pub returns-in-Spawn : goal.returns-in-Spawn
returns-in-Spawn c = rw c.in-Spawn.is (c.begun.ensures)

pub returns-in-If : goal.returns-in-If
returns-in-If c = rw c.in-If.is (rw c.new.ensures at c.begun-in-If.ensures)

pub returns-in-Watching : goal.returns-in-Watching
returns-in-Watching c = rw c.in-Watching.is (c.begun-in-Watching.ensures)

pub returns-in_default : goal.returns-in_default
returns-in_default c = rw (other.of_block c.args.kind c.args.pos c.args.nodes c.args.stack.now c.in_default.not-Semicolon c.in_default.not-Lower c.in_default.not-End c.in_default.not-With c.in_default.not-Else c.in_default.not-Outer c.in_default.not-Spawn c.in_default.not-If c.in_default.not-Watching) (c.begins.ensures)
