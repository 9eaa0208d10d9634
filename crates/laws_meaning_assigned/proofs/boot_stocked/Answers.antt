use Rattle.std.proofs.Common.{arith}
use Rattle.laws_meaning_assigned.specs.Needed.{needed}
use Rattle.laws_meaning_assigned.proofs.boot_stocked.Goals as goal

pub returns : goal.returns
unfolding needed
returns c = λ K body slot h. absurd (omega (arith, h))
