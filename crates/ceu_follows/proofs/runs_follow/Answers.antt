use Rattle.ceu_follows.proofs.Runs.{run_follows}
use Rattle.ceu_follows.proofs.runs_follow.Goals as goal

pub returns : goal.returns
returns c = λ image P width K xs laws compiled ends valid. run_follows image P width K compiled ends laws xs valid
