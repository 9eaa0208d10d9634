use Rattle.laws_meaning_assigned.proofs.Outer.{turn_code_set}
use Rattle.laws_meaning_assigned.proofs.code_outer_set.Goals as goal

pub returns : goal.returns
returns d = λ K n c f p t h e. turn_code_set K p n f c t h e
