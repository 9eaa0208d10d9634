use Rattle.std.proofs.Common.{sym, ap, Some}
use Rattle.ceu_syntax.specs.declared.machine.Mode.TheVariants as m
use Rattle.ceu_syntax.specs.declared.machine.Opening.TheVariants as o
use Rattle.ceu_syntax.specs.Steps.{state}
use Rattle.ceu_tree.specs.declared.source.Arm.{rolls-Arm'}
use Rattle.ceu_grammar.proofs.blocks.arm_on.Goals as goal

pub returns-in-Ok : goal.returns-in-Ok
returns-in-Ok c K = let e = simp rolls-Arm' at c.in-Ok.ensures in ap (λ l. Some (state K (m.Opening (o.Else l)))) (sym e)
