use Rattle.std.proofs.Common.{◌≡◌, [], take, map}
use Rattle.ceu_tree.specs.Cut.{cut}
use Rattle.ceu_tree.specs.Needs as spec
use Rattle.ceu_gates.proofs.needs.gates_of.Given as goal

abbrev pub invariant-loop-code : goal.invariant-loop-code
invariant-loop-code l = l.gates.items ≡ map cut (spec.gates_from [] (take l.code-index l.codes))
