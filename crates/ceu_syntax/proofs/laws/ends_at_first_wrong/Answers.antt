use Rattle.ceu_syntax.proofs.Completes.{first_wrong}
use Rattle.ceu_syntax.proofs.laws.ends_at_first_wrong.Goals as goal

pub returns : goal.returns
returns c tokens k e = first_wrong tokens k e
