use Rattle.laws_meaning_counters.proofs.IntRuns.{waiting_typed}
use Rattle.laws_meaning_counters.proofs.waiting_typed.Goals as goal

pub returns : goal.returns
returns c = λ r w h t. waiting_typed r w h t
