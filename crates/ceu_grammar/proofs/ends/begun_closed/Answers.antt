use Rattle.std.proofs.Common.{sym, ap, Some}
use Rattle.ceu_syntax.specs.declared.machine.Mode.TheVariants as m
use Rattle.ceu_syntax.specs.Steps.{state}
use Rattle.ceu_grammar.proofs.ends.begun_closed.Goals as goal

pub returns-in-Ok : goal.returns-in-Ok
returns-in-Ok c K = ap (λ ns. Some (state K (m.In ns))) (sym c.in-Ok.ensures)
