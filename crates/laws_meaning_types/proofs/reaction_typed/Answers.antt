use Rattle.laws_meaning_types.proofs.Runs.{reaction_types}
use Rattle.laws_meaning_types.proofs.reaction_typed.Goals as goal

pub returns : goal.returns
returns y = λ K n c p t h. reaction_types K n c p t h
