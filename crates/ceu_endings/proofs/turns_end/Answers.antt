use Rattle.ceu_endings.proofs.Ending.{turn_ends}
use Rattle.ceu_endings.proofs.turns_end.Goals as goal

pub returns : goal.returns
returns c = λ K f w h x y. turn_ends K f w h x y
