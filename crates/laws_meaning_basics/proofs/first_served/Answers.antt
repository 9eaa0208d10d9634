use Rattle.laws_meaning_basics.proofs.Order.{first_served}
use Rattle.laws_meaning_basics.proofs.first_served.Goals as goal

pub returns : goal.returns
returns c = λ r. first_served r
