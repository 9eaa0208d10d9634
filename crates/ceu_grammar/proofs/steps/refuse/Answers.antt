use Rattle.std.proofs.Common.{refl}
use Rattle.ceu_grammar.proofs.steps.refuse.Goals as goal

pub returns : goal.returns
returns g c = refl
