use Rattle.ceu_low_flow.proofs.Bytes.{few_bytes, few_labels, one_position}
use Rattle.ceu_low_flow.proofs.laws.statements_are_short.Goals as goal

pub returns : goal.returns
returns c = record {
  bytes = λ P K n p s labels fresh number flows. few_bytes P K n p s labels fresh number flows;
  labels = λ P K n p s labels fresh flows. few_labels P K n p s labels fresh flows;
  positions = λ P K n p s labels fresh flows. one_position P K n p s labels fresh flows;
}
