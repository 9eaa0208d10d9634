use Rattle.ceu_trail.proofs.Planned.{gates_nest}
use Rattle.ceu_trail.proofs.gates_nest.Goals as goal

pub returns : goal.returns
returns c = gates_nest
