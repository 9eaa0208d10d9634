use Rattle.std.proofs.Common.{◌≡◌, take}
use Rattle.ceu_tree.specs.Cut.{cut}
use Rattle.ceu_tree.specs.Weight as spec
use Rattle.ceu_tree.specs.Greatest.{total}
use Rattle.ceu_bound.proofs.weights.codes_weight.Given as goal

abbrev pub invariant-loop-code : goal.invariant-loop-code
invariant-loop-code l = l.sum ≡ cut (total spec.code_weight (take l.code-index l.codes))
