use Rattle.laws_machine_code.proofs.Ticks.{instructions_are_steps}
use Rattle.laws_machine_code.proofs.instructions_are_steps.Goals as goal

pub returns : goal.returns
returns c = instructions_are_steps
