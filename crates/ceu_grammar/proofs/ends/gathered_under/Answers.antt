use Rattle.ceu_grammar.proofs.Others as other
use Rattle.ceu_grammar.proofs.Moved.{ungathered}
use Rattle.ceu_grammar.proofs.ends.gathered_under.Goals as goal

pub returns-in-Begun : goal.returns-in-Begun
returns-in-Begun c K = rw c.in-Begun.is (c.begun_gathered.ensures K)

pub returns-in_default : goal.returns-in_default
returns-in_default c K = ungathered _ K _ c.wrong.ensures (other.gathered c.args.stmt c.args.frame K c.in_default.not-Begun)
