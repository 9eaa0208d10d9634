use Rattle.ceu_trail.proofs.Codes.{frames_are_built}
use Rattle.ceu_trail.proofs.frames_are_built.Goals as goal

pub returns : goal.returns
returns c = frames_are_built
