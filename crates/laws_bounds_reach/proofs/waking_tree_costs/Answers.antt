use Rattle.laws_bounds_reach.proofs.Trees.{tree_costs}
use Rattle.laws_bounds_reach.proofs.waking_tree_costs.Goals as goal

pub returns : goal.returns
returns c = λ P E N K top level d r e v h. tree_costs P E N level e v K h
