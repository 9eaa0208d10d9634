use Rattle.laws_promise_texts.proofs.Texts.{one}
use Rattle.laws_promise_texts.proofs.texts_have_outcomes.Goals as goal

pub returns : goal.returns
returns c = λ text K xs program. one text K xs program
