use Rattle.ceu_follows.proofs.Runs.{run_done}
use Rattle.ceu_follows.proofs.runs_are_done.Goals as goal

pub returns : goal.returns
returns c = λ image P width K xs laws compiled ends valid. run_done image P width K compiled ends laws xs valid
