use Rattle.std.proofs.Common.{refl}
use Rattle.ceu_grammar.proofs.ends.awaited_call.Goals as goal

pub returns : goal.returns
returns c = refl
