use Rattle.laws_meaning_basics.proofs.AbortOrder.{aborted_ordered}
use Rattle.laws_meaning_basics.proofs.aborts_begun.Goals as goal

pub returns : goal.returns
returns c = λ r body w. (aborted_ordered r body w).begun
