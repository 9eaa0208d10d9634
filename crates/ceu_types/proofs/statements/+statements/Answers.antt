use Rattle.std.proofs.Common.{◌≤◌, length, ap, sym, ◌∙◌, arith}
use Rattle.std.specs.List.{fold}
use Rattle.std.proofs.lemmas.List.{take_all}
use Rattle.ceu_tree.specs.declared.source.Block.{out-Block}
use Rattle.ceu_types.specs.Statements as spec
use Rattle.ceu_types.proofs.StmtForms.{found_of_block}
use Rattle.ceu_types.proofs.statements.+statements.Goals as goal

pub block_found-returns : goal.block_found-returns
block_found-returns t c =
    let same = ap length c.items-node-items.ensures in
    let over : length (out-Block c.args.block.now).list ≤ c.loop-node.node-index = omega (arith, same) in
    c.loop-node.invariant
    ∙ ap (fold (spec.node_stepped c.args.scopes.now c.args.around) c.args.found.now) (take_all c.loop-node.node-index (out-Block c.args.block.now).list over)
    ∙ sym (found_of_block c.args.scopes.now c.args.around c.args.block.now c.args.found.now)
