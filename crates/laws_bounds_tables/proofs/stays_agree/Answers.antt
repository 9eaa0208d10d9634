use Rattle.laws_bounds_tables.proofs.Stood.{stays_agree}
use Rattle.laws_bounds_tables.proofs.stays_agree.Goals as goal

pub returns : goal.returns
returns c = λ K P E N c k proper e. stays_agree K P E N c k proper e
