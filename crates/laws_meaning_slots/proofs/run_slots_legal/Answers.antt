use Rattle.laws_meaning_slots.proofs.Runs.{slots_legal}
use Rattle.laws_meaning_slots.proofs.run_slots_legal.Goals as goal

pub returns : goal.returns
returns c = λ K n xs r w p e. slots_legal K n xs r w p e
