use Rattle.laws_code_placed.proofs.AllThere.{names_there}
use Rattle.laws_code_placed.proofs.names_are_there.Goals as goal

pub returns : goal.returns
returns c = names_there
