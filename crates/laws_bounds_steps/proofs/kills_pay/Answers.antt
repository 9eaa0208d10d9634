use Rattle.laws_bounds_steps.proofs.Whole.{kills_pay}
use Rattle.laws_bounds_steps.proofs.kills_pay.Goals as goal

pub returns : goal.returns
returns q = λ P E N K n f w s c proper t counted keeps i e. kills_pay P E N n K proper f t w s c counted keeps i e
