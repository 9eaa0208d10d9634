use Rattle.laws_meaning_finalizers.proofs.Runs.{command_closes}
use Rattle.laws_meaning_finalizers.proofs.command_closes.Goals as goal

pub returns : goal.returns
returns c = λ K m k n xs y f w p e. command_closes K p m k n xs y f w e
