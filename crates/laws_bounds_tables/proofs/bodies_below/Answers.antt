use Rattle.laws_bounds_tables.proofs.Above.{body_below}
use Rattle.laws_bounds_tables.proofs.bodies_below.Goals as goal

pub returns : goal.returns
returns c = λ K c k proper e. body_below K c k proper e
