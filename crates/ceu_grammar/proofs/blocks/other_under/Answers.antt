use Rattle.ceu_grammar.proofs.Others as other
use Rattle.ceu_grammar.proofs.Moved.{refused}
use Rattle.ceu_grammar.proofs.blocks.other_under.Goals as goal

pub returns-in-Body : goal.returns-in-Body
returns-in-Body c K = rw c.in-Body.is (c.alternated.ensures K)

pub returns-in_default : goal.returns-in_default
returns-in_default c K = refused _ _ _ c.refuse.ensures (other.of_else c.args.list c.args.frame K c.in_default.not-Body)
