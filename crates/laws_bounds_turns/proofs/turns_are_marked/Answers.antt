use Rattle.laws_bounds_turns.proofs.Runs.{steps_turns}
use Rattle.laws_bounds_turns.proofs.turns_are_marked.Goals as goal

pub returns : goal.returns
returns c = λ K k d. steps_turns K k d
