use Rattle.ceu_within.proofs.Whole.{boot_within}
use Rattle.ceu_within.proofs.boot_within.Goals as goal

pub returns : goal.returns
returns c = boot_within
