use Rattle.laws_bounds_steps.proofs.Turns.{step_pays}
use Rattle.laws_bounds_steps.proofs.step_pays.Goals as goal

pub returns : goal.returns
returns c = λ P E N K n f w proper t counted keeps h inside codes. step_pays P E N K proper n f w t counted keeps h inside codes
