use Rattle.laws_meaning_slots.proofs.Runs.{names_legal}
use Rattle.laws_meaning_slots.proofs.run_names_legal.Goals as goal

pub returns : goal.returns
returns c = λ K n xs r w p e. names_legal K n xs r w p e
