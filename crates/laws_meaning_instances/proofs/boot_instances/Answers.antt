use Rattle.laws_meaning_instances.proofs.Runs.{boot_stands}
use Rattle.laws_meaning_instances.proofs.boot_instances.Goals as goal

pub returns : goal.returns
returns c = λ K. boot_stands K
