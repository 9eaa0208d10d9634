use Rattle.std.proofs.Common.{◌≡◌, ◌++◌, ◌+◌, ◌-◌, ◌*◌}
use Rattle.ceu_shape.specs.Flow.{arms_lines}
use Rattle.ceu_low_flow.proofs.loops.lower_arms.Given as goal

abbrev pub invariant-loop-arm : goal.invariant-loop-arm
invariant-loop-arm l = record l.initial.sheet { lines = l.initial.sheet.lines ++ arms_lines l.labels 0 l.first l.arms } ≡ record l.sheet { lines = l.sheet.lines ++ arms_lines l.labels (2 * l.arm) (l.first + l.arm) (l.arms - l.arm) }
