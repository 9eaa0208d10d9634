use Rattle.ceu_react.proofs.Safe.{turn_keeps, levels_keep, command_keeps}
use Rattle.ceu_react.proofs.laws.safe_is_kept.Goals as goal

pub returns-clause-turn : goal.returns-clause-turn
returns-clause-turn c = turn_keeps

pub returns-clause-levels : goal.returns-clause-levels
returns-clause-levels c = levels_keep

pub returns-clause-command : goal.returns-clause-command
returns-clause-command c = command_keeps
