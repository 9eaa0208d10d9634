use Rattle.ceu_follows.proofs.Beginning.{turn_begins}
use Rattle.ceu_follows.proofs.Stepping.{begins_kept}
use Rattle.ceu_follows.proofs.turns_begin.Goals as goal

pub returns : goal.returns
returns c = λ image P width K r w m f compiled kept stands e. turn_begins image P width K compiled r w m kept stands f (begins_kept K compiled.proper compiled.single r w f kept e).fits e
