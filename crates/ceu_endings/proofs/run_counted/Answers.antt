use Rattle.ceu_endings.proofs.CountedRuns.{run_kept}
use Rattle.ceu_endings.proofs.run_counted.Goals as goal

pub returns : goal.returns
returns c = λ K n xs. run_kept K n xs
