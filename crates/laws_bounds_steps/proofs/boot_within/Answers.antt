use Rattle.laws_bounds_steps.proofs.Turns.{boot_within}
use Rattle.laws_bounds_steps.proofs.boot_within.Goals as goal

pub returns : goal.returns
returns c = λ K. boot_within K
