use Rattle.ceu_grammar.proofs.Others as other
use Rattle.ceu_grammar.proofs.Moved.{refused}
use Rattle.ceu_grammar.proofs.expressions.arrow_under.Goals as goal

pub returns-in-RangeFrom : goal.returns-in-RangeFrom
returns-in-RangeFrom c = rw c.in-RangeFrom.is (c.pushed.ensures)

pub returns-in_default : goal.returns-in_default
returns-in_default c = refused _ _ _ c.refuse.ensures (other.ends_arrow c.args.e c.args.frame c.args.stack.now c.in_default.not-RangeFrom)
