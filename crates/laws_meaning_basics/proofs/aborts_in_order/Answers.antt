use Rattle.laws_meaning_basics.proofs.AbortOrder.{aborted_ordered}
use Rattle.laws_meaning_basics.proofs.aborts_in_order.Goals as goal

pub returns : goal.returns
returns c = λ r body w h. (aborted_ordered r body w).whole h
