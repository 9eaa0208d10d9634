use Rattle.std.proofs.Common.{◌≡◌, ◌++◌, ◌-◌}
use Rattle.ceu_shape.specs.Pools.{argument_lines}
use Rattle.ceu_low_pool.proofs.statement.add_arguments.Given as goal

abbrev pub invariant-loop-k : goal.invariant-loop-k
invariant-loop-k l = record l.initial.sheet { lines = l.initial.sheet.lines ++ argument_lines l.labels 0 l.count } ≡ record l.sheet { lines = l.sheet.lines ++ argument_lines l.labels l.k (l.count - l.k) }
