use Rattle.std.proofs.Common.{◌≡◌, take}
use Rattle.ceu_tree.specs.Cut.{cut}
use Rattle.ceu_tree.specs.Depth.{codes_depth}
use Rattle.ceu_bound.proofs.cells.codes_depth.Given as goal

abbrev pub invariant-loop-code : goal.invariant-loop-code
invariant-loop-code l = l.most ≡ cut (codes_depth (take l.code-index l.codes))
