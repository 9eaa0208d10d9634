use Rattle.laws_meaning_slots.proofs.Runs.{start_types}
use Rattle.laws_meaning_slots.proofs.start_typed.Goals as goal

pub returns : goal.returns
returns c = λ K n f w s p t q a. start_types K n f w s p t q a
