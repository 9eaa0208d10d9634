use Rattle.std.proofs.Common.{◌≡◌, ◌≤◌, ◌++◌, drop, map}
use Rattle.ceu_slots.specs.Layout.{the_offset}
use Rattle.ceu_slots.proofs.Between.{reach}
use Rattle.ceu_slots.proofs.plans.offsets.Given as goal

abbrev pub invariant-loop-row : goal.invariant-loop-row
invariant-loop-row l = record {
  rows : map the_offset l.rows ≡ l.offset.items ++ map the_offset (drop l.row-index l.rows);
  fits : reach (drop l.row-index l.rows) ≤ 65535;
}
