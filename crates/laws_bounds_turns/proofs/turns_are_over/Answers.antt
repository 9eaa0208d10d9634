use Rattle.laws_bounds_turns.proofs.Ending.{turn_ends}
use Rattle.laws_bounds_turns.proofs.turns_are_over.Goals as goal

pub returns : goal.returns
returns c = λ K n f w kept leave t m. turn_ends K n f w kept leave t m
