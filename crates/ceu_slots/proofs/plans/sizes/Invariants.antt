use Rattle.std.proofs.Common.{◌≡◌, ◌≤◌, ◌++◌, drop, map}
use Rattle.ceu_slots.specs.Layout.{the_size}
use Rattle.ceu_slots.proofs.Between.{reach}
use Rattle.ceu_slots.proofs.plans.sizes.Given as goal

abbrev pub invariant-loop-row : goal.invariant-loop-row
invariant-loop-row l = record {
  rows : map the_size l.rows ≡ l.size.items ++ map the_size (drop l.row-index l.rows);
  fits : reach (drop l.row-index l.rows) ≤ 65535;
}
