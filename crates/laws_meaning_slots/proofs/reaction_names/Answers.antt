use Rattle.laws_meaning_slots.proofs.Runs.{steps_hold}
use Rattle.laws_meaning_slots.proofs.reaction_names.Goals as goal

pub returns : goal.returns
returns c = λ K n c p t s h. steps_hold K p n c t s h
