use Rattle.laws_bounds_turns.proofs.Runs.{faultless, steps_levels}
use Rattle.laws_bounds_turns.proofs.levels_are_marked.Goals as goal

pub returns : goal.returns
returns c = λ K k d h. steps_levels K k d (faultless K d h)
