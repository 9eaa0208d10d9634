use Rattle.laws_machine_layout.proofs.Occurrences.{round_stands}
use Rattle.laws_machine_layout.proofs.round_stands.Goals as goal

pub returns : goal.returns
returns c = λ image t home r w m. round_stands image t home r w m
