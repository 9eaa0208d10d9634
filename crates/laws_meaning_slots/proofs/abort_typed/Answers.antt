use Rattle.laws_meaning_slots.proofs.Runs.{abort_types}
use Rattle.laws_meaning_slots.proofs.abort_typed.Goals as goal

pub returns : goal.returns
returns c = λ K top r w p t e. abort_types K top r w p t e
