use Rattle.laws_meaning_slots.proofs.Runs.{next_held}
use Rattle.laws_meaning_slots.proofs.step_held.Goals as goal

pub returns : goal.returns
returns c = λ K c p t s h. next_held K p c t s h
