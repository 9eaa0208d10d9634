use Rattle.ceu_positions.proofs.Placed.{positions_are_placed}
use Rattle.ceu_positions.proofs.positions_are_placed.Goals as goal

pub returns : goal.returns
returns c = positions_are_placed
