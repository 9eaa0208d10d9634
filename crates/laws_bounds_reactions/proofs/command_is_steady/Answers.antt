use Rattle.laws_bounds_reactions.proofs.Settling.{done_steady}
use Rattle.laws_bounds_reactions.proofs.command_is_steady.Goals as goal

pub returns : goal.returns
returns c = λ K n x c p h. done_steady K p n x c h
