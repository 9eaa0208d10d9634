use Rattle.ceu_grammar.proofs.Others as other
use Rattle.ceu_grammar.proofs.expressions.folded.Goals as goal

pub returns-in-Binary : goal.returns-in-Binary
returns-in-Binary c = rw c.in-Binary.is (c.binary_folded.ensures)

pub returns-in-Prefix : goal.returns-in-Prefix
returns-in-Prefix c = rw c.in-Prefix.is (c.prefix_folded.ensures)

pub returns-in_default : goal.returns-in_default
returns-in_default c K = other.reduce c.args.least c.args.e c.args.frame K c.in_default.not-Binary c.in_default.not-Prefix
