use Rattle.ceu_escapes.proofs.ValueEscapes.{value_comes}
use Rattle.ceu_escapes.proofs.value_escapes_are_done.Goals as goal

pub returns : goal.returns
returns c = value_comes
