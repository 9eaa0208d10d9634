use Rattle.laws_meaning_instances.proofs.Runs.{steps_stand}
use Rattle.laws_meaning_instances.proofs.reaction_instances.Goals as goal

pub returns : goal.returns
returns c = λ K n c p t h. steps_stand K p n c t h
