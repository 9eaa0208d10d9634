use Rattle.laws_meaning_basics.proofs.Order.{input_wakes}
use Rattle.laws_meaning_basics.proofs.input_wakes.Goals as goal

pub returns : goal.returns
returns c = λ input v r. input_wakes input v r
