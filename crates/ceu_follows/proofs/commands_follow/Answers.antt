use Rattle.ceu_follows.proofs.Commands.{command_follows}
use Rattle.ceu_follows.proofs.commands_follow.Goals as goal

pub returns : goal.returns
returns g = λ image P width K x c d laws compiled ends valid agrees. command_follows image P width K compiled ends laws x c d valid agrees
