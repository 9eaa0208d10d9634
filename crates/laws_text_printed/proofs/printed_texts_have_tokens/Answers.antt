use Rattle.laws_text_printed.proofs.Tokens.{derived_spelled}
use Rattle.laws_text_printed.proofs.HaveTokens.{printed_kinds}
use Rattle.laws_text_printed.proofs.printed_texts_have_tokens.Goals as goal

pub returns : goal.returns
returns c = record {
  spelled = printed_kinds;
  derived = λ text tokens t reads derived. printed_kinds t (derived_spelled text tokens t reads derived);
}
