use Rattle.std.proofs.Common.{◌≡◌, ◌++◌, drop}
use Rattle.ceu_low_par.specs.Conditions.{AreNodes, nodes_of}
use Rattle.ceu_codegen.specs.Lists.{block_list_labels}
use Rattle.ceu_codegen.proofs.labels.add_branches.Given as goal

abbrev pub invariant-loop-branch : goal.invariant-loop-branch
invariant-loop-branch l = record {
  labels : l.initial.parts ++ block_list_labels l.branches ≡ l.parts ++ block_list_labels (drop l.branch-index l.branches);
  nodes : AreNodes 65536 (nodes_of (drop l.branch-index l.branches));
}
