use Rattle.laws_bounds_reactions.proofs.Settling.{booted_steady}
use Rattle.laws_bounds_reactions.proofs.boot_is_steady.Goals as goal

pub returns : goal.returns
returns c = λ K p. booted_steady K p
