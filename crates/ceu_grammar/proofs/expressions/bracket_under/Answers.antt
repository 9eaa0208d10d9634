use Rattle.std.proofs.Common.{refl}
use Rattle.ceu_grammar.proofs.Others as other
use Rattle.ceu_grammar.proofs.Moved.{refused}
use Rattle.ceu_grammar.proofs.expressions.bracket_under.Goals as goal

pub returns-in-RangeTo : goal.returns-in-RangeTo
returns-in-RangeTo c K = rw c.in-RangeTo.is refl

pub returns-in_default : goal.returns-in_default
returns-in_default c K = refused _ _ _ c.refuse.ensures (other.ends_bracket c.args.open_b c.args.e c.args.frame K c.in_default.not-RangeTo)
