use Rattle.ceu_endings.proofs.CountedRuns.{done_kept}
use Rattle.ceu_endings.proofs.command_counted.Goals as goal

pub returns : goal.returns
returns c = λ K n x d h. done_kept K n x d h
