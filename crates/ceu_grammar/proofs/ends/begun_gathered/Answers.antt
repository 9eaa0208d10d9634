use Rattle.std.proofs.Common.{refl}
use Rattle.ceu_grammar.proofs.ends.begun_gathered.Goals as goal

pub returns-in-Ok : goal.returns-in-Ok
returns-in-Ok c K = let e = c.in-Ok.ensures in rw e refl
