use Rattle.laws_meaning_basics.proofs.Order.{event_wakes}
use Rattle.laws_meaning_basics.proofs.event_wakes.Goals as goal

pub returns : goal.returns
returns c = λ level event v r. event_wakes level event v r
