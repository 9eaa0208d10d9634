use Rattle.laws_meaning_assigned.proofs.Runs.{done_all}
use Rattle.laws_meaning_assigned.proofs.command_stocked.Goals as goal

pub returns : goal.returns
returns c = λ K n x d p t i h. done_all K p n x d t i h
