use Rattle.laws_meaning_slots.proofs.Runs.{steps_held}
use Rattle.laws_meaning_slots.proofs.reaction_held.Goals as goal

pub returns : goal.returns
returns c = λ K n c p t s h. steps_held K p n c t s h
