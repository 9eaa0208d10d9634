use Rattle.ceu_grammar.proofs.Others as other
use Rattle.ceu_grammar.proofs.expressions.comma_under.Goals as goal

pub returns-in-Arguments : goal.returns-in-Arguments
returns-in-Arguments c = rw c.in-Arguments.is (c.argument_on.ensures)

pub returns-in-Until : goal.returns-in-Until
returns-in-Until c = rw c.in-Until.is (c.act_comma.ensures)

pub returns-in_default : goal.returns-in_default
returns-in_default c = rw (other.ends_comma c.args.e c.args.frame c.args.stack.now c.in_default.not-Arguments c.in_default.not-Until) ((c.source_comma.ensures _))
