use Rattle.ceu_endings.proofs.CountedRuns.{next_kept}
use Rattle.ceu_endings.proofs.step_counted.Goals as goal

pub returns : goal.returns
returns c = λ K d h. next_kept K d h
