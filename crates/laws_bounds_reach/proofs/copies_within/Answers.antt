use Rattle.laws_bounds_reach.proofs.Bounded.{program_copies}
use Rattle.laws_bounds_reach.proofs.copies_within.Goals as goal

pub returns : goal.returns
returns c = λ K top r k proper fits stand. program_copies K top r k proper fits stand
