use Rattle.std.proofs.Common.{◌≡◌, take}
use Rattle.ceu_tree.specs.Cut.{cut}
use Rattle.ceu_tree.specs.Weight as spec
use Rattle.ceu_tree.specs.Greatest.{total}
use Rattle.ceu_bound.proofs.weights.arguments_weight.Given as goal

abbrev pub invariant-loop-exp : goal.invariant-loop-exp
invariant-loop-exp l = l.sum ≡ cut (total spec.exp_weight (take l.exp-index l.exps))
