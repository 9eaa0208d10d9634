use Rattle.ceu_follows.proofs.Stepping.{next_kept}
use Rattle.ceu_follows.proofs.steps_keep.Goals as goal

pub returns : goal.returns
returns c = λ K x proper single h z. next_kept K proper single x h z
