use Rattle.ceu_endings.proofs.Calm.{turn_settles}
use Rattle.ceu_endings.proofs.one_turn.Goals as goal

pub returns : goal.returns
returns c = λ K k f w p h x e. turn_settles K k f w p h x e
