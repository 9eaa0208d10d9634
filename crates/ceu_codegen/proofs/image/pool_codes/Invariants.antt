use Rattle.std.proofs.Common.{◌≡◌, ◌++◌, ◌≤◌, map, drop}
use Rattle.std.specs.List.{AllByRecursion}
use Rattle.ceu_codegen.specs.declared.pools.Pool.{Pool}
use Rattle.ceu_codegen.proofs.image.pool_codes.Given as goal

abbrev pub invariant-loop-pool : goal.invariant-loop-pool
invariant-loop-pool l = record {
  codes : map (λ (pool : Pool). pool.code) l.pools ≡ l.codes ++ map (λ (pool : Pool). pool.code) (drop l.pool-index l.pools);
  small : AllByRecursion (λ (pool : Pool). pool.code ≤ 65535) (drop l.pool-index l.pools);
}
