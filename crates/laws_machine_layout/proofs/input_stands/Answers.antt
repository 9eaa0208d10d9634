use Rattle.laws_machine_layout.proofs.Occurrences.{input_stands}
use Rattle.laws_machine_layout.proofs.input_stands.Goals as goal

pub returns : goal.returns
returns c = λ image t home r w m. input_stands image t home r w m
