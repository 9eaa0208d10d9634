use Rattle.ceu_endings.proofs.StepMarks.{reaction_counts}
use Rattle.ceu_endings.proofs.one_turn_a_reaction.Goals as goal

pub returns : goal.returns
returns c = λ K k r w p h x. reaction_counts K p h k r w x
