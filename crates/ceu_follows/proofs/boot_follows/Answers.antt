use Rattle.ceu_follows.proofs.Booting.{boot_follows}
use Rattle.ceu_follows.proofs.boot_follows.Goals as goal

pub returns : goal.returns
returns c = λ image P width K laws compiled ends. boot_follows image P width K compiled ends laws
