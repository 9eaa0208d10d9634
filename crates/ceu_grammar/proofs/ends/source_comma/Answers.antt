use Rattle.ceu_grammar.proofs.Others as other
use Rattle.ceu_grammar.proofs.Moved.{refused}
use Rattle.ceu_grammar.proofs.ends.source_comma.Goals as goal

pub returns-in-Initial : goal.returns-in-Initial
returns-in-Initial c K = rw c.in-Initial.is (c.items_on.ensures K)

pub returns-in_default : goal.returns-in_default
returns-in_default c K = refused _ _ _ c.refuse.ensures (other.source_comma c.args.source c.args.frame K c.in_default.not-Initial)
