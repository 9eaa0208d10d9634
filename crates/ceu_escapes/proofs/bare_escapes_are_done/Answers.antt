use Rattle.ceu_escapes.proofs.Escapes.{bare_comes}
use Rattle.ceu_escapes.proofs.bare_escapes_are_done.Goals as goal

pub returns : goal.returns
returns c = bare_comes
