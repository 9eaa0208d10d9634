use Rattle.std.proofs.Common.{refl}
use Rattle.ceu_syntax.specs.Steps as spec
use Rattle.ceu_grammar.proofs.Moved.{ungathered, gathered_on}
use Rattle.ceu_grammar.proofs.ends.gathered.Goals as goal

pub returns-in-Some : goal.returns-in-Some
returns-in-Some c = gathered_on (λ K. spec.gathered c.args.stmt K) _ _ _ _ _ c.in-Some.ensures (c.gathered_under.ensures _)

pub returns-in-None : goal.returns-in-None
returns-in-None c = rw c.in-None.ensures.0 (ungathered _ _ _ c.wrong.ensures refl)
