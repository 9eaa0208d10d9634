use Rattle.ceu_endings.proofs.CountedRuns.{booted_kept}
use Rattle.ceu_endings.proofs.boot_counted.Goals as goal

pub returns : goal.returns
returns c = λ K. booted_kept K
