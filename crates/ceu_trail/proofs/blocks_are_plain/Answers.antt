use Rattle.ceu_trail.proofs.Plain.{blocks_are_plain}
use Rattle.ceu_trail.proofs.blocks_are_plain.Goals as goal

pub returns : goal.returns
returns c = blocks_are_plain
