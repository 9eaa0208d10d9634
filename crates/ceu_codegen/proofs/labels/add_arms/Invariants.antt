use Rattle.std.proofs.Common.{◌≡◌, ◌++◌, ◌+◌, ◌*◌, drop}
use Rattle.ceu_low_par.specs.Conditions.{AreNodes}
use Rattle.ceu_codegen.specs.Lists.{arm_list_labels, nodes_of_arms}
use Rattle.ceu_codegen.proofs.labels.add_arms.Given as goal

abbrev pub invariant-loop-arm : goal.invariant-loop-arm
invariant-loop-arm l = record {
  labels : l.initial.parts ++ arm_list_labels l.fresh l.arms ≡ l.parts ++ arm_list_labels l.begin (drop l.arm-index l.arms);
  nodes : AreNodes 65536 (nodes_of_arms (drop l.arm-index l.arms));
  begin : l.begin ≡ l.fresh + 2 * l.arm-index;
}
