use Rattle.std.proofs.Common.{sym, ap, Some}
use Rattle.ceu_syntax.specs.declared.machine.Mode.TheVariants as m
use Rattle.ceu_syntax.specs.declared.machine.Coding.TheVariants as coding
use Rattle.ceu_syntax.specs.Steps.{state}
use Rattle.ceu_grammar.proofs.Moved.{exhausted}
use Rattle.ceu_grammar.proofs.declarations.param_on.Goals as goal

pub returns-in-Ok : goal.returns-in-Ok
returns-in-Ok c K = ap (λ l. Some (state K (m.Coding (coding.ParamEnd c.args.code l)))) (sym c.in-Ok.ensures)

pub returns-in-Err : goal.returns-in-Err
returns-in-Err c K = exhausted _ K _ c.exhaust.ensures
