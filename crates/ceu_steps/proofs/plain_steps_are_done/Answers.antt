use Rattle.ceu_steps.proofs.Knot.{plain_steps_are_done}
use Rattle.ceu_steps.proofs.plain_steps_are_done.Goals as goal

pub returns : goal.returns
returns c = plain_steps_are_done
