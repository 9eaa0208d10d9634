use Rattle.std.proofs.Common.{◌≡◌, take}
use Rattle.ceu_tree.specs.Cut.{cut}
use Rattle.ceu_tree.specs.Needs as spec
use Rattle.ceu_gates.proofs.needs.pools_gates.Given as goal

abbrev pub invariant-loop-decl : goal.invariant-loop-decl
invariant-loop-decl l = l.count ≡ cut (spec.pools_gates l.gates (take l.decl-index l.decls))
