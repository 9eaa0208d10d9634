use Rattle.laws_meaning_finalizers.proofs.Runs.{turn_closes}
use Rattle.laws_meaning_finalizers.proofs.step_closes.Goals as goal

pub returns : goal.returns
returns c = λ K n f w p t i own outer. turn_closes K p n f w t i own outer
