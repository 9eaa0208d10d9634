use Rattle.laws_machine_layout.proofs.Occurrences.{time_stands}
use Rattle.laws_machine_layout.proofs.time_stands.Goals as goal

pub returns : goal.returns
returns c = λ image t home r w m. time_stands image t home r w m
