use Rattle.ceu_grammar.proofs.Others as other
use Rattle.ceu_grammar.proofs.Moved.{refused}
use Rattle.ceu_grammar.proofs.ends.closed_under.Goals as goal

pub returns-in-Begun : goal.returns-in-Begun
returns-in-Begun c K = rw c.in-Begun.is (c.begun_closed.ensures K)

pub returns-in_default : goal.returns-in_default
returns-in_default c K = refused _ _ _ c.refuse.ensures (other.closed c.args.stmt c.args.frame K c.in_default.not-Begun)
