use Rattle.std.proofs.Common.{ap, ◌∷◌, Some}
use Rattle.ceu_syntax.specs.declared.machine.Mode.TheVariants as m
use Rattle.ceu_syntax.specs.declared.machine.Frame.TheVariants as f
use Rattle.ceu_syntax.specs.Steps.{state}
use Rattle.ceu_grammar.proofs.Moved.{exhausted, moves_as}
use Rattle.ceu_grammar.proofs.expressions.argument_on.Goals as goal

pub returns-in-Ok : goal.returns-in-Ok
returns-in-Ok c = moves_as _ _ _ _ (ap (λ l. Some (state (f.Arguments c.args.code l ∷ c.args.stack.now) m.Start)) c.in-Ok.ensures) c.pushed.ensures

pub returns-in-Err : goal.returns-in-Err
returns-in-Err c = exhausted _ _ _ c.exhaust.ensures
