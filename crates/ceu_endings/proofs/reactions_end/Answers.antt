use Rattle.ceu_endings.proofs.Reacting.{reaction_ends}
use Rattle.ceu_endings.proofs.reactions_end.Goals as goal

pub returns : goal.returns
returns c = λ K r w h x y. reaction_ends K r w h x y
