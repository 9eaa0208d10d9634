use Rattle.ceu_simulates.proofs.Steps.{steps_are_done}
use Rattle.ceu_simulates.proofs.steps_are_done.Goals as goal

pub returns : goal.returns
returns c = steps_are_done
