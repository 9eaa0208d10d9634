use Rattle.ceu_endings.proofs.Running.{run_ends}
use Rattle.ceu_endings.proofs.runs_end.Goals as goal

pub returns : goal.returns
returns c = λ K xs e. run_ends K e xs
