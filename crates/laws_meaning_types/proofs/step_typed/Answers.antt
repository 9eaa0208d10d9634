use Rattle.laws_meaning_types.proofs.Runs.{step_types}
use Rattle.laws_meaning_types.proofs.step_typed.Goals as goal

pub returns : goal.returns
returns d = λ K c p t h. step_types K c p t h
