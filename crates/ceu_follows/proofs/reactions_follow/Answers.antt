use Rattle.ceu_follows.proofs.Reacting.{reaction_follows}
use Rattle.ceu_follows.proofs.reactions_follow.Goals as goal

pub returns : goal.returns
returns c = λ image P width K r w m laws compiled ends kept stands. reaction_follows image P width K compiled ends laws r w m kept stands
