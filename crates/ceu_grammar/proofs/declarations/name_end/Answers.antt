use Rattle.std.proofs.Common.{refl}
use Rattle.ceu_grammar.proofs.Modes as mode
use Rattle.ceu_grammar.proofs.Moved.{refused}
use Rattle.ceu_grammar.proofs.declarations.name_end.Goals as goal

pub returns-in-Comma : goal.returns-in-Comma
returns-in-Comma c = rw c.in-Comma.is refl

pub returns-in-Semicolon : goal.returns-in-Semicolon
returns-in-Semicolon c = rw c.in-Semicolon.is (c.declares.ensures)

pub returns-in-CloseParen : goal.returns-in-CloseParen
returns-in-CloseParen c = rw c.in-CloseParen.is (c.shares.ensures _)

pub returns-in_default : goal.returns-in_default
returns-in_default c = refused _ _ _ c.refuse.ensures (mode.of_name_end c.args.kind c.args.listed c.args.names c.args.stack.now c.in_default.not-Comma c.in_default.not-Semicolon c.in_default.not-CloseParen)
