use Rattle.laws_machine_layout.proofs.Occurrences.{due_stands}
use Rattle.laws_machine_layout.proofs.due_stands.Goals as goal

pub returns : goal.returns
returns c = λ image t home r w m. due_stands image t home r w m
