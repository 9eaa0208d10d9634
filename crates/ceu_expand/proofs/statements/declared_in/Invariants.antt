use Rattle.std.proofs.Common.{◌≡◌, take}
use Rattle.ceu_expand.specs.Expansion.{declared_all}
use Rattle.ceu_expand.proofs.statements.declared_in.Given as goal

abbrev pub invariant-loop-node : goal.invariant-loop-node
invariant-loop-node l = l.count ≡ declared_all (take l.node-index l.nodes)
