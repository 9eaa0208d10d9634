use Rattle.ceu_tree.specs.Residual.{Act}
use Rattle.laws_bounds_reach.proofs.Bodies.{woken_costs}
use Rattle.laws_bounds_reach.proofs.waking_costs.Goals as goal

pub returns : goal.returns
returns c = λ P E N K top level f r d part code e v a h. woken_costs P E N level e v {A = Act} K top f r d part code a h
