use Rattle.laws_bounds_steps.proofs.Whole.{spawns_pay}
use Rattle.laws_bounds_steps.proofs.spawns_pay.Goals as goal

pub returns : goal.returns
returns q = λ P E N K n f w s c es p a proper t counted keeps i e pools codes. spawns_pay P E N n K proper f t w s c es p a counted keeps i e pools codes
