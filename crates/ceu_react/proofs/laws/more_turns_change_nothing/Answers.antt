use Rattle.ceu_react.proofs.Safe.{more_turns}
use Rattle.ceu_react.proofs.laws.more_turns_change_nothing.Goals as goal

pub returns : goal.returns
returns c = more_turns
