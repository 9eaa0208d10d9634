use Rattle.laws_code_placed.proofs.Operands.{made_plans_fit}
use Rattle.laws_code_placed.proofs.plans_fit.Goals as goal

pub returns : goal.returns
returns c = made_plans_fit
