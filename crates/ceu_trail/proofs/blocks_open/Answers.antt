use Rattle.ceu_trail.proofs.Codes.{blocks_open}
use Rattle.ceu_trail.proofs.blocks_open.Goals as goal

pub returns : goal.returns
returns c = blocks_open
