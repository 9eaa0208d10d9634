use Rattle.std.proofs.Common.{refl}
use Rattle.ceu_syntax.specs.Steps as spec
use Rattle.ceu_grammar.proofs.Moved.{refused, popped, nothing_open}
use Rattle.ceu_grammar.proofs.actions.in_statement.Goals as goal

pub returns-in-Some : goal.returns-in-Some
returns-in-Some c = popped (λ K. spec.in_statement c.args.mode K) _ _ _ _ _ c.in-Some.ensures (c.in_statement_under.ensures)

pub returns-in-None : goal.returns-in-None
returns-in-None c = nothing_open (λ K. spec.in_statement c.args.mode K) _ _ _ c.in-None.ensures.0 (refused _ _ _ c.refuse.ensures refl)
