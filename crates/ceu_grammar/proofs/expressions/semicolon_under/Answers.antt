use Rattle.ceu_grammar.proofs.Others as other
use Rattle.ceu_grammar.proofs.expressions.semicolon_under.Goals as goal

pub returns-in-Until : goal.returns-in-Until
returns-in-Until c = rw c.in-Until.is (c.act_semicolon.ensures)

pub returns-in-Escape : goal.returns-in-Escape
returns-in-Escape c = rw c.in-Escape.is (c.closed.ensures)

pub returns-in_default : goal.returns-in_default
returns-in_default c = rw (other.ends_semicolon c.args.e c.args.frame c.args.stack.now c.in_default.not-Until c.in_default.not-Escape) (c.source_semicolon.ensures)
