use Rattle.std.proofs.Common.{refl}
use Rattle.ceu_grammar.proofs.Modes as mode
use Rattle.ceu_grammar.proofs.Moved.{exhausted}
use Rattle.ceu_grammar.proofs.openings.of_do.Goals as goal

pub returns-in-Slash : goal.returns-in-Slash
returns-in-Slash c = rw c.in-Slash.is refl

pub returns-in-Finalize : goal.returns-in-Finalize
returns-in-Finalize c = rw c.in-Finalize.is (c.in_statement.ensures)

pub returns-in-Ok : goal.returns-in-Ok
returns-in-Ok c = rw (mode.of_do c.args.kind c.args.pos c.args.stack.now c.in_default.not-Slash c.in_default.not-Finalize) ((rw (c.in-Ok.ensures.ok, c.new.ensures) at c.in_block.ensures))

pub returns-in-Err : goal.returns-in-Err
returns-in-Err c = exhausted _ _ _ c.exhaust.ensures
