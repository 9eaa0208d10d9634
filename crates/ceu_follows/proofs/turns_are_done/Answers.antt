use Rattle.ceu_follows.proofs.Turning.{turn_done}
use Rattle.ceu_follows.proofs.turns_are_done.Goals as goal

pub returns : goal.returns
returns c = λ image P width K f w r m laws compiled ends kept stands. turn_done image P width K compiled ends laws f w r m kept stands
