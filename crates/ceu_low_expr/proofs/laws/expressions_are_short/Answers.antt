use Rattle.ceu_shape.proofs.Expressed.{exp_small}
use Rattle.ceu_shape.proofs.Short.{exp_tight}
use Rattle.ceu_low_expr.proofs.laws.expressions_are_short.Goals as goal

pub returns : goal.returns
returns c = record {
  bytes = λ offset e fresh number. exp_tight offset e number fresh;
  labels = λ offset e fresh. (exp_small offset e).labels fresh;
  positions = λ offset e fresh. (exp_small offset e).positions fresh;
}
