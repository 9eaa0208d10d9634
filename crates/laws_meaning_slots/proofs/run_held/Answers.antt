use Rattle.laws_meaning_slots.proofs.Runs.{run_held}
use Rattle.laws_meaning_slots.proofs.run_held.Goals as goal

pub returns : goal.returns
returns c = λ K n xs p. run_held K p n xs
