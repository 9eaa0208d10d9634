use Rattle.ceu_trail.proofs.Planned.{gates_are_first}
use Rattle.ceu_trail.proofs.gates_are_first.Goals as goal

pub returns : goal.returns
returns c = gates_are_first
