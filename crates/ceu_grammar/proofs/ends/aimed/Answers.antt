use Rattle.std.proofs.Common.{refl}
use Rattle.ceu_syntax.specs.Steps as spec
use Rattle.ceu_grammar.proofs.Moved.{popped}
use Rattle.ceu_grammar.proofs.ends.aimed.Goals as goal

pub returns-in-Some : goal.returns-in-Some
returns-in-Some c = popped (λ K. spec.aimed c.args.target K) _ _ _ _ _ c.in-Some.ensures c.aimed_under.ensures

pub returns-in-None : goal.returns-in-None
returns-in-None c = rw c.in-None.ensures.0 (rw c.in-None.ensures.1 refl)
