use Rattle.laws_meaning_finalizers.proofs.Idle.{idle_fine}
use Rattle.laws_meaning_finalizers.proofs.idle_closes.Goals as goal

pub returns : goal.returns
returns c = λ K n r w p t i own outer. idle_fine K p n r w t i own outer
