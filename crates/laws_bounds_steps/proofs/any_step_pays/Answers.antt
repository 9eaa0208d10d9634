use Rattle.laws_bounds_steps.proofs.Whole.{any_step_pays}
use Rattle.laws_bounds_steps.proofs.any_step_pays.Goals as goal

pub returns : goal.returns
returns c = λ P E N K n f w proper t counted stands keeps h codes emissions waking. any_step_pays P E N n K proper f t w counted stands.pools keeps h codes emissions waking
