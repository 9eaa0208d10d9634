use Rattle.ceu_grammar.proofs.Others as other
use Rattle.ceu_grammar.proofs.Moved.{refused}
use Rattle.ceu_grammar.proofs.expressions.casts.Goals as goal

pub returns-in-Type : goal.returns-in-Type
returns-in-Type c K = rw c.in-Type.is (c.typed.ensures K)

pub returns-in_default : goal.returns-in_default
returns-in_default c K = refused _ _ _ c.refuse.ensures (other.of_cast c.args.kind c.args.pos c.args.e K c.in_default.not-Type)
