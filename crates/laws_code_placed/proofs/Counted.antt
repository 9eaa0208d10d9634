-- How many nodes, pools, codes, ports and events a kernel has, by its weight.
use Rattle.std.proofs.Common.{ℕ, suc, ◌+◌, ◌*◌, ◌≤◌, List, [], ◌∷◌, ◌++◌, length, length-append, arith}
use Rattle.ceu_tree.specs.declared.kernel.Kernel.{Kernel}
use Rattle.ceu_tree.specs.declared.kernel.KCode.{KCode}
use Rattle.ceu_tree.specs.declared.kernel.KDecl.{KDecl}
use Rattle.ceu_tree.specs.declared.kernel.KKind.{KKind}
use Rattle.ceu_tree.specs.declared.kernel.KKind.TheVariants as kind
use Rattle.ceu_tree.specs.declared.kernel.KBlock.{KBlock, KBlock', Row_of-KNode, end_of-KNode, more_of-KNode}
use Rattle.ceu_tree.specs.declared.kernel.KArm.{KArm, KArm'}
use Rattle.ceu_tree.specs.declared.kernel.KStmt.{KStmt, Row_of-KArm, end_of-KArm, more_of-KArm, Row_of-KBlock, end_of-KBlock, more_of-KBlock, Async, Finalize, Do, If', Loop, Par'}
use Rattle.ceu_tree.specs.Greatest.{total}
use Rattle.ceu_tree.specs.Numbering.{stmt_nodes, block_nodes, arm_nodes, list_nodes, arms_nodes, blocks_nodes, codes_nodes}
use Rattle.ceu_tree.specs.Weight.{stmt_weight, block_weight, arm_weight, nodes_weight, arms_weight, blocks_weight, code_weight, weight}
use Rattle.ceu_shape.specs.Searches.{PoolRow, pool_of, decls_pools, stmt_pools, block_pools, arm_pools, nodes_pools, arms_pools, blocks_pools, codes_pools, kernel_pools}

mutual
  unfolding stmt_nodes stmt_weight

  stmt_count : (s : KStmt) → 24 * length (stmt_nodes s) ≤ stmt_weight s + 24
  stmt_count (Async b) = block_count b
  stmt_count (Finalize b) = block_count b
  stmt_count (Do t b) = block_count b
  stmt_count (If' _ arms last) = omega (arith, arms_count arms, block_count last, length-append (arms_nodes arms) (block_nodes last))
  stmt_count (Loop k b) = omega (arith, block_count b)
  stmt_count (Par' k slot _ bs) = omega (arith, blocks_count bs)
  stmt_count _ = omega arith

  block_count : (b : KBlock) → 24 * length (block_nodes b) ≤ block_weight b + 24
  block_count (KBlock' n ds _ list) = omega (arith, list_count list)

  arm_count : (a : KArm) → 24 * length (arm_nodes a) ≤ arm_weight a
  arm_count (KArm' c b) = omega (arith, block_count b)

  list_count : {n : _} (rows : Row_of-KNode n) → 24 * length (list_nodes rows) ≤ nodes_weight rows
  list_count end_of-KNode = omega arith
  list_count (more_of-KNode n p s rest) = omega (arith, stmt_count s, list_count rest, length-append (stmt_nodes s) (list_nodes rest))

  arms_count : {n : _} (rows : Row_of-KArm n) → 24 * length (arms_nodes rows) ≤ arms_weight rows
  arms_count end_of-KArm = omega arith
  arms_count (more_of-KArm a rest) = omega (arith, arm_count a, arms_count rest, length-append (arm_nodes a) (arms_nodes rest))

  blocks_count : {n : _} (rows : Row_of-KBlock n) → 24 * length (blocks_nodes rows) ≤ blocks_weight rows
  blocks_count end_of-KBlock = omega arith
  blocks_count (more_of-KBlock b rest) = omega (arith, block_count b, blocks_count rest, length-append (block_nodes b) (blocks_nodes rest))

codes_count : (cs : List KCode) → 24 * length (codes_nodes cs) ≤ total code_weight cs
codes_count [] = omega arith
codes_count (c ∷ cs) = omega (arith, block_count c.body, codes_count cs, length-append (block_nodes c.body) (codes_nodes cs))

pub kernel_count : (K : Kernel) → 24 * length (block_nodes K.body ++ codes_nodes K.codes) ≤ weight K + 24
unfolding weight
kernel_count K = omega (arith, block_count K.body, codes_count K.codes, length-append (block_nodes K.body) (codes_nodes K.codes))

-- ---- pools

pool_one : (slot : ℕ) (k : KKind) (rest : List PoolRow) → length (pool_of slot k ++ rest) ≤ suc (length rest)
pool_one slot (kind.Var t) rest = omega arith
pool_one slot (kind.Alias c) rest = omega arith
pool_one slot (kind.Pool n c) rest = omega arith

decls_pool_count : (ds : List KDecl) → length (decls_pools ds) ≤ length ds
decls_pool_count [] = omega arith
decls_pool_count (d ∷ ds) = omega (arith, pool_one d.slot d.kind (decls_pools ds), decls_pool_count ds)

mutual
  unfolding stmt_pools stmt_weight

  stmt_pool_count : (s : KStmt) → 48 * length (stmt_pools s) ≤ stmt_weight s
  stmt_pool_count (Async b) = block_pool_count b
  stmt_pool_count (Finalize b) = block_pool_count b
  stmt_pool_count (Do t b) = block_pool_count b
  stmt_pool_count (If' _ arms last) = omega (arith, arms_pool_count arms, block_pool_count last, length-append (arms_pools arms) (block_pools last))
  stmt_pool_count (Loop k b) = omega (arith, block_pool_count b)
  stmt_pool_count (Par' k slot _ bs) = omega (arith, blocks_pool_count bs)
  stmt_pool_count _ = omega arith

  block_pool_count : (b : KBlock) → 48 * length (block_pools b) ≤ block_weight b
  block_pool_count (KBlock' n ds _ list) = omega (arith, decls_pool_count ds, list_pool_count list, length-append (decls_pools ds) (nodes_pools list))

  arm_pool_count : (a : KArm) → 48 * length (arm_pools a) ≤ arm_weight a
  arm_pool_count (KArm' c b) = omega (arith, block_pool_count b)

  list_pool_count : {n : _} (rows : Row_of-KNode n) → 48 * length (nodes_pools rows) ≤ nodes_weight rows
  list_pool_count end_of-KNode = omega arith
  list_pool_count (more_of-KNode n p s rest) = omega (arith, stmt_pool_count s, list_pool_count rest, length-append (stmt_pools s) (nodes_pools rest))

  arms_pool_count : {n : _} (rows : Row_of-KArm n) → 48 * length (arms_pools rows) ≤ arms_weight rows
  arms_pool_count end_of-KArm = omega arith
  arms_pool_count (more_of-KArm a rest) = omega (arith, arm_pool_count a, arms_pool_count rest, length-append (arm_pools a) (arms_pools rest))

  blocks_pool_count : {n : _} (rows : Row_of-KBlock n) → 48 * length (blocks_pools rows) ≤ blocks_weight rows
  blocks_pool_count end_of-KBlock = omega arith
  blocks_pool_count (more_of-KBlock b rest) = omega (arith, block_pool_count b, blocks_pool_count rest, length-append (block_pools b) (blocks_pools rest))

codes_pool_count : (cs : List KCode) → 48 * length (codes_pools cs) ≤ total code_weight cs
codes_pool_count [] = omega arith
codes_pool_count (c ∷ cs) = omega (arith, block_pool_count c.body, codes_pool_count cs, length-append (block_pools c.body) (codes_pools cs))

codes_few : (cs : List KCode) → 48 * length cs ≤ total code_weight cs
codes_few [] = omega arith
codes_few (c ∷ cs) = omega (arith, codes_few cs)

-- the pools, codes, ports and events of a kernel, each 48 of its weight
pub record Counts (K : Kernel) : Type 0 where
  pub pools : 48 * length (kernel_pools K) ≤ weight K
  pub codes : 48 * length K.codes ≤ weight K
  pub inputs : 48 * length K.inputs ≤ weight K
  pub outputs : 48 * length K.outputs ≤ weight K
  pub events : 48 * length K.events ≤ weight K

pub kernel_counts : (K : Kernel) → Counts K
unfolding weight kernel_pools
kernel_counts K = record {
  pools = omega (arith, block_pool_count K.body, codes_pool_count K.codes, length-append (block_pools K.body) (codes_pools K.codes));
  codes = omega (arith, codes_few K.codes);
  inputs = omega arith;
  outputs = omega arith;
  events = omega arith;
}
