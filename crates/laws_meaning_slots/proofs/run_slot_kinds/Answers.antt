use Rattle.laws_meaning_slots.proofs.Runs.{run_kinds}
use Rattle.laws_meaning_slots.proofs.run_slot_kinds.Goals as goal

pub returns : goal.returns
returns c = λ K n xs r w p e. run_kinds K n xs r w p e
