use Rattle.laws_meaning_finalizers.proofs.Idle.{run_idle_fine}
use Rattle.laws_meaning_finalizers.proofs.run_idle_closes.Goals as goal

pub returns : goal.returns
returns c = λ K m n xs r w p e. run_idle_fine K p m n xs r w e
