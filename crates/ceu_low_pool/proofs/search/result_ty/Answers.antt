use Rattle.std.proofs.Common.{sym, ap, ◌∙◌, List, get_or}
use Rattle.ceu_tree.specs.declared.kernel.KCode.{KCode}
use Rattle.ceu_shape.specs.Searches.{ty_of_result}
use Rattle.ceu_low_pool.proofs.Adding.{code_there}
use Rattle.ceu_low_pool.proofs.search.result_ty.Goals as goal

pub returns : goal.returns
returns c =
    let d = c.index-items-code.result in
    ap (λ (cs : List KCode). (get_or cs c.args.code d).result) c.items.ensures ∙ sym (ap ty_of_result (code_there c.args.code c.args.kernel.now.codes d c.requires))
