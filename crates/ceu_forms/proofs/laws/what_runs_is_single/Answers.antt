use Rattle.ceu_forms.proofs.Same.{runs_single}
use Rattle.ceu_forms.proofs.laws.what_runs_is_single.Goals as goal

pub returns : goal.returns
returns c = runs_single
