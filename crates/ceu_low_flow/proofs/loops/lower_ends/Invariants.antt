use Rattle.std.proofs.Common.{◌≡◌, ◌++◌, ◌-◌, ◌*◌}
use Rattle.ceu_shape.specs.Flow.{arm_ends}
use Rattle.ceu_low_flow.proofs.loops.lower_ends.Given as goal

abbrev pub invariant-loop-arm : goal.invariant-loop-arm
invariant-loop-arm l = record l.initial.sheet { lines = l.initial.sheet.lines ++ arm_ends l.labels 0 l.arms } ≡ record l.sheet { lines = l.sheet.lines ++ arm_ends l.labels (2 * l.arm) (l.arms - l.arm) }
