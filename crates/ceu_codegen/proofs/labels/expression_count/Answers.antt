use Rattle.std.proofs.Common.{sym, ap, ◌∙◌, length}
use Rattle.ceu_tree.specs.declared.kernel.KArm.{KArm}
use Rattle.ceu_shape.specs.Shape.{expression_count}
use Rattle.ceu_low_flow.proofs.Adding.{arms_counted}
use Rattle.ceu_codegen.proofs.labels.expression_count.Goals as goal

pub returns-in-If : goal.returns-in-If
returns-in-If c = ap (length {A = KArm}) c.items-in-If.ensures ∙ sym (ap expression_count c.in-If.is ∙ arms_counted c.in-If.arms)
