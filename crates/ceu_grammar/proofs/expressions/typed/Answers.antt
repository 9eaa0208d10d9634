use Rattle.std.proofs.Common.{sym, ap, Some}
use Rattle.ceu_syntax.specs.Trees as tree
use Rattle.ceu_syntax.specs.declared.machine.Mode.TheVariants as m
use Rattle.ceu_syntax.specs.Steps.{state}
use Rattle.ceu_grammar.proofs.expressions.typed.Goals as goal

pub returns-in-Ok : goal.returns-in-Ok
returns-in-Ok c K = ap (λ u. Some (state K (m.Typed (tree.cast c.args.pos u c.args.ty)))) (sym c.in-Ok.ensures)
