use Rattle.laws_meaning_types.proofs.Runs.{cells_are}
use Rattle.laws_meaning_types.proofs.run_cells_legal.Goals as goal

pub returns : goal.returns
returns y = λ K n xs r w p q e. cells_are K n xs r w p q e
