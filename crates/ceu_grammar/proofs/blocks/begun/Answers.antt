use Rattle.std.proofs.Common.{ap, ◌∷◌, Some}
use Rattle.ceu_syntax.specs.Steps.{state}
use Rattle.ceu_grammar.proofs.Moved.{exhausted, moves_as}
use Rattle.ceu_grammar.proofs.blocks.begun.Goals as goal

pub returns-in-Ok : goal.returns-in-Ok
returns-in-Ok c = moves_as _ _ _ _ (ap (λ l. Some (state (c.args.frame ∷ l) c.args.mode)) c.in-Ok.ensures.ok) c.pushed.ensures

pub returns-in-Err : goal.returns-in-Err
returns-in-Err c = exhausted _ _ _ c.exhaust.ensures
