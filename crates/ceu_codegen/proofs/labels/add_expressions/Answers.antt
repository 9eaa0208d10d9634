use Rattle.std.proofs.Common.{◌++◌, arith}
use Rattle.ceu_shape.specs.Shape.{expression_labels}
use Rattle.ceu_codegen.proofs.Labelled.{labels_step}
use Rattle.ceu_codegen.proofs.labels.add_expressions.Goals as goal

pub loop-k-preserved : goal.loop-k-preserved
loop-k-preserved c =
    labels_step (c.args.parts.now ++ expression_labels c.args.count c.args.fresh) c.loop-k.parts c.add_pair.new.parts c.args.count c.loop-k.k c.args.fresh (omega arith) c.loop-k.invariant c.in_ok-add_pair.ensures
