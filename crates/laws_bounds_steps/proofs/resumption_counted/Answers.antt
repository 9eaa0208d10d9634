use Rattle.laws_bounds_steps.proofs.Turns.{resumption_counted}
use Rattle.laws_bounds_steps.proofs.resumption_counted.Goals as goal

pub returns : goal.returns
returns c = λ K n r f h. resumption_counted n r f h
