use Rattle.std.proofs.Common.{sym, ap, Some}
use Rattle.ceu_syntax.specs.declared.machine.Mode.TheVariants as m
use Rattle.ceu_syntax.specs.declared.machine.Declaring.TheVariants as d
use Rattle.ceu_syntax.specs.Steps.{state}
use Rattle.ceu_grammar.proofs.ends.items_ended.Goals as goal

pub returns-in-Ok : goal.returns-in-Ok
returns-in-Ok c K = ap (λ l. Some (state K (m.Declaring (d.ItemEnd c.args.ty l)))) (sym c.in-Ok.ensures)
