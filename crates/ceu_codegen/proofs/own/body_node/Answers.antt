use Rattle.std.proofs.Common.{sym, ap, ◌∙◌, List, get_or}
use Rattle.ceu_tree.specs.declared.kernel.KCode.{KCode}
use Rattle.ceu_tree.specs.declared.kernel.KBlock.{out-KBlock}
use Rattle.ceu_shape.specs.Searches.{node_of_body}
use Rattle.ceu_low_pool.proofs.Adding.{code_there}
use Rattle.ceu_codegen.proofs.Levels.{node_is}
use Rattle.ceu_codegen.proofs.own.body_node.Goals as goal

pub returns : goal.returns
returns c =
    let d = c.index-items-code.result in
    let codes = c.args.kernel.now.codes in
    ap (λ (cs : List KCode). (out-KBlock (get_or cs c.args.code d).body).node) c.items.ensures ∙ sym (node_is (get_or codes c.args.code d).body)
    ∙ sym (ap node_of_body (code_there c.args.code codes d c.requires))
