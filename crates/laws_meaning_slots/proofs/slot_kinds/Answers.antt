use Rattle.laws_meaning_slots.proofs.Runs.{kinds_are}
use Rattle.laws_meaning_slots.proofs.slot_kinds.Goals as goal

pub returns : goal.returns
returns c = λ K r w p t v. kinds_are K r w p t v
