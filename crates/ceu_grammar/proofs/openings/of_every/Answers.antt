use Rattle.std.proofs.Common.{refl}
use Rattle.ceu_grammar.proofs.Modes as mode
use Rattle.ceu_grammar.proofs.Moved.{exhausted}
use Rattle.ceu_grammar.proofs.openings.of_every.Goals as goal

pub returns-in-Lower : goal.returns-in-Lower
returns-in-Lower c = rw c.in-Lower.is (rw c.ident.ensures refl)

pub returns-in-Outer : goal.returns-in-Outer
returns-in-Outer c = rw c.in-Outer.is refl

pub returns-in-Ok : goal.returns-in-Ok
returns-in-Ok c = rw (mode.of_every c.args.kind c.args.pos c.args.stack.now c.in_default.not-Lower c.in_default.not-Outer) ((rw c.in-Ok.ensures.ok at c.of_target.ensures))

pub returns-in-Err : goal.returns-in-Err
returns-in-Err c = exhausted _ _ _ c.exhaust.ensures
