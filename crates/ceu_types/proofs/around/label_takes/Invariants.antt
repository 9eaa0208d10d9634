use Rattle.std.proofs.Common.{◌≡◌, take}
use Rattle.ceu_types.specs.Around as spec
use Rattle.ceu_types.proofs.around.label_takes.Given as goal

abbrev pub invariant-loop-label : goal.invariant-loop-label
invariant-loop-label l = l.takes ≡ spec.label_takes (take l.label-index l.labels) l.name
