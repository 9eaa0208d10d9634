use Rattle.ceu_grammar.proofs.Modes as mode
use Rattle.ceu_grammar.proofs.Moved.{refused}
use Rattle.ceu_grammar.proofs.declarations.item_value.Goals as goal

pub returns-in-Assign : goal.returns-in-Assign
returns-in-Assign c = rw c.in-Assign.is (c.pushed.ensures)

pub returns-in-Comma : goal.returns-in-Comma
returns-in-Comma c = rw c.in-Comma.is (c.items_on.ensures _)

pub returns-in-Semicolon : goal.returns-in-Semicolon
returns-in-Semicolon c = rw c.in-Semicolon.is (c.items_closed.ensures)

pub returns-in_default : goal.returns-in_default
returns-in_default c = refused _ _ _ c.refuse.ensures (mode.item_value c.args.kind c.args.ty c.args.items c.args.x c.args.stack.now c.in_default.not-Assign c.in_default.not-Comma c.in_default.not-Semicolon)
