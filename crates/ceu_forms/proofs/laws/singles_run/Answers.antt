use Rattle.ceu_forms.proofs.Same.{single_runs}
use Rattle.ceu_forms.proofs.laws.singles_run.Goals as goal

pub returns : goal.returns
returns c = single_runs
