use Rattle.ceu_endings.proofs.Running.{one_turn_in_bounds}
use Rattle.ceu_endings.proofs.one_turn_in_bounds.Goals as goal

pub returns : goal.returns
returns c = λ K. one_turn_in_bounds K
