use Rattle.std.proofs.Common.{◌≡◌, ◌+◌, drop}
use Rattle.ceu_tree.specs.Greatest.{total}
use Rattle.ceu_tree.specs.Needs.{node_finalizers}
use Rattle.ceu_codegen.proofs.own.finalizers.Given as goal

abbrev pub invariant-loop-node : goal.invariant-loop-node
invariant-loop-node l = total node_finalizers l.nodes ≡ l.count + total node_finalizers (drop l.node-index l.nodes)
