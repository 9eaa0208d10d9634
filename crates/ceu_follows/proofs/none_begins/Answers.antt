use Rattle.ceu_follows.proofs.Beginning.{none_begins}
use Rattle.ceu_follows.proofs.none_begins.Goals as goal

pub returns : goal.returns
returns c = λ image P width K r w m compiled kept stands e. none_begins image P width K compiled r w m kept stands e
