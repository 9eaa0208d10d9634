use Rattle.laws_bounds_tables.proofs.Ways.{passes_agree}
use Rattle.laws_bounds_tables.proofs.passes_agree.Goals as goal

pub returns : goal.returns
returns c = λ K c k proper e. passes_agree K c k proper e
