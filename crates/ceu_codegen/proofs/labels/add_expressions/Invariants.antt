use Rattle.std.proofs.Common.{◌≡◌, ◌++◌, ◌+◌, ◌-◌, ◌*◌}
use Rattle.ceu_shape.specs.Shape.{expression_labels}
use Rattle.ceu_codegen.proofs.labels.add_expressions.Given as goal

abbrev pub invariant-loop-k : goal.invariant-loop-k
invariant-loop-k l = l.initial.parts ++ expression_labels l.count l.fresh ≡ l.parts ++ expression_labels (l.count - l.k) (l.fresh + 2 * l.k)
