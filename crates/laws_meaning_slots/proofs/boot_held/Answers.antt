use Rattle.std.proofs.Common.{refl}
use Rattle.laws_meaning_slots.proofs.boot_held.Goals as goal

pub returns : goal.returns
returns c = λ K. refl
