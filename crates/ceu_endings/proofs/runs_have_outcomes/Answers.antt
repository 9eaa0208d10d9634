use Rattle.ceu_endings.proofs.Running.{run_outcome}
use Rattle.ceu_endings.proofs.runs_have_outcomes.Goals as goal

pub returns : goal.returns
returns c = λ K xs e. run_outcome K e xs
