use Rattle.ceu_endings.proofs.Running.{command_ends}
use Rattle.ceu_endings.proofs.commands_end.Goals as goal

pub returns : goal.returns
returns c = λ K x d e h y z. command_ends K e x d h y z
