use Rattle.laws_bounds_turns.proofs.Runs.{over_levels}
use Rattle.laws_bounds_turns.proofs.over_is_marked.Goals as goal

pub returns : goal.returns
returns c = λ K k d h. over_levels K k d h
