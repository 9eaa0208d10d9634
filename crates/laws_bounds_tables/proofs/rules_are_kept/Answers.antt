use Rattle.laws_bounds_tables.proofs.Bodies.{rules_kept}
use Rattle.laws_bounds_tables.proofs.rules_are_kept.Goals as goal

pub returns : goal.returns
returns c = λ K proper keeps. rules_kept K proper keeps
