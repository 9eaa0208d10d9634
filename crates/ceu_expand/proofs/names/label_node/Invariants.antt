use Rattle.std.proofs.Common.{◌≡◌, take}
use Rattle.ceu_expand.specs.Uses as spec
use Rattle.ceu_expand.proofs.names.label_node.Given as goal

abbrev pub invariant-loop-label : goal.invariant-loop-label
invariant-loop-label l = l.node ≡ spec.label_node (take l.label-index l.labels) l.name 0
