use Rattle.ceu_trail.proofs.Stops.{stops_are_there}
use Rattle.ceu_trail.proofs.stops_are_there.Goals as goal

pub returns : goal.returns
returns c = stops_are_there
