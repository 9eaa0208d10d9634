use Rattle.laws_bounds_reactions.proofs.Settling.{next_steady}
use Rattle.laws_bounds_reactions.proofs.step_is_steady.Goals as goal

pub returns : goal.returns
returns c = λ K c p h. next_steady K p c h
