use Rattle.std.proofs.Common.{refl}
use Rattle.ceu_grammar.proofs.Moved.{unfinished}
use Rattle.ceu_grammar.proofs.parser.unless_open.Goals as goal

pub returns-in-None : goal.returns-in-None
returns-in-None c = rw c.in-None.ensures.0 refl

pub returns-in-Some : goal.returns-in-Some
returns-in-Some c = unfinished _ _ c.wrong.ensures (rw c.in-Some.ensures refl)
