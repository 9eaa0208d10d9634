use Rattle.std.proofs.Common.{◌≡◌, take}
use Rattle.ceu_tree.specs.Cut.{cut}
use Rattle.ceu_tree.specs.Depth as spec
use Rattle.ceu_bound.proofs.cells.arguments_depth.Given as goal

abbrev pub invariant-loop-exp : goal.invariant-loop-exp
invariant-loop-exp l = (l.most ≡ cut (spec.arguments_depth 0 (take l.exp-index l.exps))) × (l.place ≡ cut l.exp-index)
