use Rattle.ceu_react.proofs.Safe.{turn_allowed}
use Rattle.ceu_react.proofs.laws.next_turn_is_allowed.Goals as goal

pub returns : goal.returns
returns c = turn_allowed
