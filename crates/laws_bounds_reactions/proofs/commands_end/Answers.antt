use Rattle.laws_bounds_reactions.proofs.Runs.{commands_end}
use Rattle.laws_bounds_reactions.proofs.commands_end.Goals as goal

pub returns : goal.returns
returns c = λ K x c p k h e. commands_end K p k x c h e
