use Rattle.ceu_syntax.proofs.Exact.{one_derived}
use Rattle.ceu_syntax.proofs.laws.one_tree.Goals as goal

pub returns : goal.returns
returns c text tokens a b d e = one_derived text tokens a b d e
