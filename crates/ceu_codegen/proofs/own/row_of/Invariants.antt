use Rattle.std.proofs.Common.{◌≡◌, ◌+◌, drop}
use Rattle.ceu_codegen.specs.Pools.{row_among}
use Rattle.ceu_codegen.proofs.own.row_of.Given as goal

abbrev pub invariant-loop-pool : goal.invariant-loop-pool
invariant-loop-pool l = record {
  row : row_among l.slot l.pools ≡ l.row + row_among l.slot (drop l.pool-index l.pools);
  before : l.row ≡ l.pool-index;
}
