use Rattle.laws_bounds_steps.proofs.Places.{turn_keeps}
use Rattle.laws_bounds_steps.proofs.rules_reach.Goals as goal

pub returns : goal.returns
returns c = λ K n f h t. turn_keeps K h f t
