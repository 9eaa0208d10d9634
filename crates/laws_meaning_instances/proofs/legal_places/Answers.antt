use Rattle.laws_meaning_instances.proofs.Runs.{places_same}
use Rattle.laws_meaning_instances.proofs.legal_places.Goals as goal

pub returns : goal.returns
returns c = λ K w found. places_same K w found
