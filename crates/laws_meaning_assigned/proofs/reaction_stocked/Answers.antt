use Rattle.laws_meaning_assigned.proofs.Runs.{steps_all}
use Rattle.laws_meaning_assigned.proofs.reaction_stocked.Goals as goal

pub returns : goal.returns
returns c = λ K n d p t i h. steps_all K p n d t i h
