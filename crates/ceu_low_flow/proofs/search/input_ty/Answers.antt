use Rattle.std.proofs.Common.{sym, ap, ◌∙◌, List, get_or}
use Rattle.ceu_base.specs.declared.kinds.Port.{Port}
use Rattle.ceu_shape.specs.Searches.{ty_or_none}
use Rattle.ceu_low_flow.proofs.Adding.{port_there}
use Rattle.ceu_low_flow.proofs.search.input_ty.Goals as goal

pub returns : goal.returns
returns c =
    let d = c.index-items-input.result in
    ap (λ (ps : List Port). (get_or ps c.args.input d).ty) c.items.ensures ∙ sym (ap ty_or_none (port_there c.args.kernel.now c.args.input c.args.kernel.now.inputs d c.requires))
