use Rattle.laws_bounds_steps.proofs.Runs.{level_bounded}
use Rattle.laws_bounds_steps.proofs.level_bounded.Goals as goal

pub returns : goal.returns
returns c = λ K k d. level_bounded K k d
