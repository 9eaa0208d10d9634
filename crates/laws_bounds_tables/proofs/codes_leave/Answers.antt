use Rattle.laws_bounds_tables.proofs.Bodies.{code_leaves}
use Rattle.laws_bounds_tables.proofs.codes_leave.Goals as goal

pub returns : goal.returns
returns c = λ P K c k proper e. code_leaves P K c k proper e
