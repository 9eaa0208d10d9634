use Rattle.laws_meaning_counters.proofs.CountersRuns.{steps_all}
use Rattle.laws_meaning_counters.proofs.reaction_counters.Goals as goal

pub returns : goal.returns
returns c = λ K n d p t i h. steps_all K p n d t i h
