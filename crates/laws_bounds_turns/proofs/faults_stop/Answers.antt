use Rattle.laws_bounds_turns.proofs.Runs.{steps_unharmed}
use Rattle.laws_bounds_turns.proofs.faults_stop.Goals as goal

pub returns : goal.returns
returns c = λ K k d h. steps_unharmed K k d h
