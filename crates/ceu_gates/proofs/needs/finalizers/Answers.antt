use Rattle.std.proofs.Common.{◌<◌, length, ap, sym, add-one, arith}
use Rattle.std.proofs.lemmas.Grind.{common_steps}
use Rattle.ceu_tree.specs.Needs.{node_finalizers}
use Rattle.ceu_tree.proofs.TableLaws.{total_more}
use Rattle.ceu_gates.proofs.needs.finalizers.Goals as goal

pub loop-node-preserved : goal.loop-node-preserved
loop-node-preserved c =
    let below : c.loop-node.node-index < length c.args.nodes.now = omega arith in
    let more = total_more node_finalizers c.args.nodes.now c.loop-node.node-index c.node-item.result below in
    let here = ap node_finalizers (sym c.node-item.is) in
    rw add-one (grind (arith, common_steps, more, here, c.loop-node.invariant, c.is_finalize.ensures, c.saturating_add-count.ensures))
