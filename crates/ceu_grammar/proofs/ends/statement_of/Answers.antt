use Rattle.std.proofs.Common.{refl}
use Rattle.ceu_grammar.proofs.ends.statement_of.Goals as goal

pub returns-in-Wait : goal.returns-in-Wait
returns-in-Wait c = rw c.in-Wait.is refl

pub returns-in-Start : goal.returns-in-Start
returns-in-Start c = rw c.in-Start.is refl
