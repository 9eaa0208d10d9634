use Rattle.std.proofs.Common.{◌≡◌, ◌≤◌, ◌++◌, drop, map}
use Rattle.ceu_gates.specs.Ranges.{reach, the_first, the_count}
use Rattle.ceu_gates.proofs.plan.by_node.Given as goal

abbrev pub invariant-loop-row : goal.invariant-loop-row
invariant-loop-row l = record {
  first : map the_first l.rows ≡ l.first ++ map the_first (drop l.row-index l.rows);
  count : map the_count l.rows ≡ l.count ++ map the_count (drop l.row-index l.rows);
  fits : reach (drop l.row-index l.rows) ≤ 65535;
}
