use Rattle.ceu_trail.proofs.Codes.{parts_are_built}
use Rattle.ceu_trail.proofs.parts_are_built.Goals as goal

pub returns : goal.returns
returns c = parts_are_built
