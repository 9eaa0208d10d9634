use Rattle.std.proofs.Common.{sym, ap, Some}
use Rattle.ceu_syntax.specs.declared.machine.Mode.TheVariants as m
use Rattle.ceu_syntax.specs.declared.machine.Declaring.TheVariants as d
use Rattle.ceu_syntax.specs.declared.machine.Listed.TheVariants as listed
use Rattle.ceu_syntax.specs.Steps.{state}
use Rattle.ceu_grammar.proofs.openings.shared.Goals as goal

pub returns-in-Ok : goal.returns-in-Ok
returns-in-Ok c K = let e = rw (c.new.ensures, c.ident.ensures) at c.in-Ok.ensures in ap (λ l. Some (state K (m.Declaring (d.NameEnd listed.Shared l)))) (sym e)
