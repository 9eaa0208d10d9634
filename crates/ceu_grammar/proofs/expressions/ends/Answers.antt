use Rattle.std.proofs.Common.{refl}
use Rattle.ceu_grammar.proofs.Others as other
use Rattle.ceu_syntax.specs.Steps.{held}
use Rattle.ceu_grammar.proofs.Moved.{refused}
use Rattle.ceu_grammar.proofs.expressions.ends.Goals as goal

pub returns-in-As : goal.returns-in-As
returns-in-As c = rw c.in-As.is refl

pub returns-in-Then : goal.returns-in-Then
returns-in-Then c = rw c.in-Then.is (c.ends_condition.ensures)

pub returns-in-CloseParen : goal.returns-in-CloseParen
returns-in-CloseParen c = rw c.in-CloseParen.is (c.ends_paren.ensures)

pub returns-in-Semicolon : goal.returns-in-Semicolon
returns-in-Semicolon c = rw c.in-Semicolon.is (c.ends_semicolon.ensures)

pub returns-in-Comma : goal.returns-in-Comma
returns-in-Comma c = rw c.in-Comma.is (c.ends_comma.ensures)

pub returns-in-Arrow : goal.returns-in-Arrow
returns-in-Arrow c = rw c.in-Arrow.is (c.ends_arrow.ensures)

pub returns-in-CloseBracket : goal.returns-in-CloseBracket
returns-in-CloseBracket c = rw c.in-CloseBracket.is (c.ends_bracket.ensures)

pub returns-in-OpenBracket : goal.returns-in-OpenBracket
returns-in-OpenBracket c = rw c.in-OpenBracket.is (c.ends_bracket-in-OpenBracket.ensures)

pub returns-in_default : goal.returns-in_default
returns-in_default c = refused _ _ _ c.refuse.ensures (other.ends c.args.kind c.args.pos (held c.args.e c.args.stack.now) c.in_default.not-As c.in_default.not-Then c.in_default.not-CloseParen c.in_default.not-Semicolon c.in_default.not-Comma c.in_default.not-Arrow c.in_default.not-CloseBracket c.in_default.not-OpenBracket)
