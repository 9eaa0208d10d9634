use Rattle.laws_bounds_reactions.proofs.Bounded.{booted_bounded}
use Rattle.laws_bounds_reactions.proofs.boot_is_bounded.Goals as goal

pub returns : goal.returns
returns c = λ K p k. booted_bounded K p k
