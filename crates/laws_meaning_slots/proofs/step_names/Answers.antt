use Rattle.laws_meaning_slots.proofs.Runs.{next_hold}
use Rattle.laws_meaning_slots.proofs.step_names.Goals as goal

pub returns : goal.returns
returns c = λ K c p t s h. next_hold K p c t s h
