use Rattle.std.proofs.Common.{sym, ap, Some}
use Rattle.ceu_syntax.specs.Steps.{state}
use Rattle.ceu_grammar.proofs.Moved.{exhausted}
use Rattle.ceu_grammar.proofs.steps.pushed.Goals as goal

pub returns-in-Ok : goal.returns-in-Ok
returns-in-Ok c = ap (λ K. Some (state K c.args.mode)) (sym c.in-Ok.ensures.ok)

pub returns-in-Err : goal.returns-in-Err
returns-in-Err c = exhausted _ _ _ c.exhaust.ensures
