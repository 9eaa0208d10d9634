use Rattle.laws_bounds_tables.proofs.Entered.{enters_agree}
use Rattle.laws_bounds_tables.proofs.enters_agree.Goals as goal

pub returns : goal.returns
returns c = λ K P E c k proper e. enters_agree K P E c k proper e
