use Rattle.laws_promise_texts.proofs.Texts.{stays_bounded}
use Rattle.laws_promise_texts.proofs.texts_stay_bounded.Goals as goal

pub returns : goal.returns
returns c = λ text K program. stays_bounded text K program
