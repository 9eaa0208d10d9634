use Rattle.laws_bounds_steps.proofs.Turns.{parts_pay}
use Rattle.laws_bounds_steps.proofs.leaving_pays.Goals as goal

pub returns : goal.returns
returns c = λ P E N K n f part x w proper around counted keeps y h. parts_pay P E N K proper n f part around counted keeps x w y h
