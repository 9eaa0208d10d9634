use Rattle.std.proofs.Common.{refl}
use Rattle.ceu_grammar.proofs.steps.exhaust.Goals as goal

pub returns : goal.returns
returns g c = refl
