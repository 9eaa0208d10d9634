use Rattle.laws_meaning_slots.proofs.Runs.{run_hold}
use Rattle.laws_meaning_slots.proofs.run_names.Goals as goal

pub returns : goal.returns
returns c = λ K n xs p. run_hold K p n xs
