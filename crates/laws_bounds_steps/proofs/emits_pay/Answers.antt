use Rattle.laws_bounds_steps.proofs.Whole.{emits_pay}
use Rattle.laws_bounds_steps.proofs.emits_pay.Goals as goal

pub returns : goal.returns
returns c = λ P E N K n f w s e x proper t i l pools emissions waking. emits_pay P E N n K proper f t w s e x i l pools emissions waking
