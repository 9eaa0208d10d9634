use Rattle.laws_meaning_counters.proofs.IntRuns.{steps_ints}
use Rattle.laws_meaning_counters.proofs.reaction_ints.Goals as goal

pub returns : goal.returns
returns c = λ K n d p t e h. steps_ints K p n d t e h
