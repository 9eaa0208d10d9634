-- A kernel of small weight has few nodes, pools and codes.
use Rattle.std.proofs.Common.{ℕ, ◌+◌, ◌*◌, ◌≤◌, List, [], ◌∷◌, ◌++◌, length, arith, length-append}
use Rattle.ceu_tree.specs.declared.kernel.Kernel.{Kernel}
use Rattle.ceu_tree.specs.declared.kernel.KCode.{KCode}
use Rattle.ceu_tree.specs.declared.kernel.KDecl.{KDecl}
use Rattle.ceu_tree.specs.declared.kernel.KKind.{KKind}
use Rattle.ceu_tree.specs.declared.kernel.KKind.TheVariants as kind
use Rattle.ceu_tree.specs.declared.kernel.KBlock.{KBlock, KBlock', Row_of-KNode, end_of-KNode, more_of-KNode}
use Rattle.ceu_tree.specs.declared.kernel.KArm.{KArm, KArm'}
use Rattle.ceu_tree.specs.declared.kernel.KStmt.{KStmt, Row_of-KArm, end_of-KArm, more_of-KArm, Row_of-KBlock, end_of-KBlock, more_of-KBlock, Async, Finalize, Do, If', Loop, Par'}
use Rattle.ceu_tree.specs.Greatest.{total}
use Rattle.ceu_tree.specs.Numbering.{stmt_nodes, block_nodes, arm_nodes, list_nodes, arms_nodes, blocks_nodes, codes_nodes}
use Rattle.ceu_tree.specs.Weight.{stmt_weight, block_weight, arm_weight, nodes_weight, arms_weight, blocks_weight, code_weight, weight}
use Rattle.ceu_shape.specs.Searches.{pool_of, decls_pools, stmt_pools, block_pools, arm_pools, nodes_pools, arms_pools, blocks_pools, codes_pools, kernel_pools}

mutual
  unfolding stmt_nodes stmt_weight

  stmt_few : (s : KStmt) → 24 * length (stmt_nodes s) ≤ 24 + stmt_weight s
  stmt_few (Async b) = block_few b
  stmt_few (Finalize b) = block_few b
  stmt_few (Do t b) = block_few b
  stmt_few (If' _ arms last) = omega (arith, arms_few arms, block_few last, length-append (arms_nodes arms) (block_nodes last))
  stmt_few (Loop k b) = omega (arith, block_few b)
  stmt_few (Par' k slot _ bs) = omega (arith, blocks_few bs)
  stmt_few _ = omega arith

  block_few : (b : KBlock) → 24 * length (block_nodes b) ≤ 24 + block_weight b
  block_few (KBlock' n ds x list) = omega (arith, list_few list)

  arm_few : (a : KArm) → 24 * length (arm_nodes a) ≤ arm_weight a
  arm_few (KArm' c b) = omega (arith, block_few b)

  list_few : {n : _} (r : Row_of-KNode n) → 24 * length (list_nodes r) ≤ nodes_weight r
  list_few end_of-KNode = omega arith
  list_few (more_of-KNode n q s rest) = omega (arith, stmt_few s, list_few rest, length-append (stmt_nodes s) (list_nodes rest))

  arms_few : {n : _} (r : Row_of-KArm n) → 24 * length (arms_nodes r) ≤ arms_weight r
  arms_few end_of-KArm = omega arith
  arms_few (more_of-KArm a rest) = omega (arith, arm_few a, arms_few rest, length-append (arm_nodes a) (arms_nodes rest))

  blocks_few : {n : _} (r : Row_of-KBlock n) → 24 * length (blocks_nodes r) ≤ blocks_weight r
  blocks_few end_of-KBlock = omega arith
  blocks_few (more_of-KBlock b rest) = omega (arith, block_few b, blocks_few rest, length-append (block_nodes b) (blocks_nodes rest))

codes_few : (cs : List KCode) → 24 * length (codes_nodes cs) ≤ total code_weight cs
codes_few [] = omega arith
codes_few (c ∷ cs) = omega (arith, block_few c.body, codes_few cs, length-append (block_nodes c.body) (codes_nodes cs))

pub few_nodes : (K : Kernel) → weight K ≤ 65535 → length (block_nodes K.body ++ codes_nodes K.codes) ≤ 65535
unfolding weight
few_nodes K h = omega (arith, block_few K.body, codes_few K.codes, length-append (block_nodes K.body) (codes_nodes K.codes), h)

codes_counted : (cs : List KCode) → length cs ≤ total code_weight cs
codes_counted [] = omega arith
codes_counted (c ∷ cs) = omega (arith, codes_counted cs)

pub few_codes : (K : Kernel) → weight K ≤ 65535 → length K.codes ≤ 65535
unfolding weight
few_codes K h = omega (arith, codes_counted K.codes, h)

-- ---- pools

one_pool : (slot : ℕ) (k : KKind) → length (pool_of slot k) ≤ 1
one_pool slot (kind.Var t) = omega arith
one_pool slot (kind.Alias c) = omega arith
one_pool slot (kind.Pool n c) = omega arith

decls_pooled : (ds : List KDecl) → length (decls_pools ds) ≤ length ds
decls_pooled [] = omega arith
decls_pooled (d ∷ ds) = omega (arith, one_pool d.slot d.kind, decls_pooled ds, length-append (pool_of d.slot d.kind) (decls_pools ds))

mutual
  unfolding stmt_pools stmt_weight

  stmt_pooled : (s : KStmt) → length (stmt_pools s) ≤ stmt_weight s
  stmt_pooled (Async b) = block_pooled b
  stmt_pooled (Finalize b) = block_pooled b
  stmt_pooled (Do t b) = block_pooled b
  stmt_pooled (If' _ arms last) = omega (arith, arms_pooled arms, block_pooled last, length-append (arms_pools arms) (block_pools last))
  stmt_pooled (Loop k b) = omega (arith, block_pooled b)
  stmt_pooled (Par' k slot _ bs) = blocks_pooled bs
  stmt_pooled _ = omega arith

  block_pooled : (b : KBlock) → length (block_pools b) ≤ block_weight b
  block_pooled (KBlock' n ds x list) = omega (arith, decls_pooled ds, nodes_pooled list, length-append (decls_pools ds) (nodes_pools list))

  arm_pooled : (a : KArm) → length (arm_pools a) ≤ arm_weight a
  arm_pooled (KArm' c b) = omega (arith, block_pooled b)

  nodes_pooled : {n : _} (r : Row_of-KNode n) → length (nodes_pools r) ≤ nodes_weight r
  nodes_pooled end_of-KNode = omega arith
  nodes_pooled (more_of-KNode n q s rest) = omega (arith, stmt_pooled s, nodes_pooled rest, length-append (stmt_pools s) (nodes_pools rest))

  arms_pooled : {n : _} (r : Row_of-KArm n) → length (arms_pools r) ≤ arms_weight r
  arms_pooled end_of-KArm = omega arith
  arms_pooled (more_of-KArm a rest) = omega (arith, arm_pooled a, arms_pooled rest, length-append (arm_pools a) (arms_pools rest))

  blocks_pooled : {n : _} (r : Row_of-KBlock n) → length (blocks_pools r) ≤ blocks_weight r
  blocks_pooled end_of-KBlock = omega arith
  blocks_pooled (more_of-KBlock b rest) = omega (arith, block_pooled b, blocks_pooled rest, length-append (block_pools b) (blocks_pools rest))

codes_pooled : (cs : List KCode) → length (codes_pools cs) ≤ total code_weight cs
codes_pooled [] = omega arith
codes_pooled (c ∷ cs) = omega (arith, block_pooled c.body, codes_pooled cs, length-append (block_pools c.body) (codes_pools cs))

pub few_pools : (K : Kernel) → weight K ≤ 65535 → length (kernel_pools K) ≤ 65535
unfolding weight kernel_pools
few_pools K h = omega (arith, block_pooled K.body, codes_pooled K.codes, length-append (block_pools K.body) (codes_pools K.codes), h)
