use Rattle.laws_meaning_slots.proofs.Aims.{apart}
use Rattle.laws_meaning_slots.proofs.none_to_parts.Goals as goal

pub returns : goal.returns
returns c = λ K t f sc s b p a o. apart K p sc s b a o
