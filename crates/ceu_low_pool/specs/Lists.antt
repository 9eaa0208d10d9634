-- The size of the pool at a slot, over the lists that the code walks.
use Rattle.std.specs.Prelude.{ℕ, ◌==◌, if◌then◌else◌, List, [], ◌∷◌, Option, Some, None}
use Rattle.ceu_tree.specs.declared.kernel.KDecl.{KDecl}
use Rattle.ceu_tree.specs.declared.kernel.KNode.{KNode}
use Rattle.ceu_tree.specs.declared.kernel.KArm.{KArm}
use Rattle.ceu_tree.specs.declared.kernel.KBlock.{KBlock}
use Rattle.ceu_tree.specs.declared.kernel.KCode.{KCode}
use Rattle.ceu_tree.specs.declared.kernel.KStmt.{KStmt}
use Rattle.ceu_shape.specs.Searches.{PoolRow, or_else, pool_of, stmt_pools, block_pools, arm_pools}

module _ (slot : ℕ) where
  -- the size of the first of these pools that has the slot
  abbrev pub found : List PoolRow → Option ℕ
  found [] = None
  found (r ∷ rs) = if r.slot == slot then Some r.size else found rs

  unfoldable pub stmt_pool : KStmt → Option ℕ
  stmt_pool s = found (stmt_pools s)

  unfoldable pub block_pool : KBlock → Option ℕ
  block_pool b = found (block_pools b)

  unfoldable pub arm_pool : KArm → Option ℕ
  arm_pool a = found (arm_pools a)

  abbrev pub decl_pool : KDecl → Option ℕ
  decl_pool d = found (pool_of d.slot d.kind)

  abbrev pub decl_list_pool : List KDecl → Option ℕ
  decl_list_pool [] = None
  decl_list_pool (d ∷ ds) = or_else (decl_pool d) (decl_list_pool ds)

  abbrev pub node_list_pool : List KNode → Option ℕ
  node_list_pool [] = None
  node_list_pool (x ∷ xs) = or_else (stmt_pool x.stmt) (node_list_pool xs)

  abbrev pub arm_list_pool : List KArm → Option ℕ
  arm_list_pool [] = None
  arm_list_pool (x ∷ xs) = or_else (arm_pool x) (arm_list_pool xs)

  abbrev pub block_list_pool : List KBlock → Option ℕ
  block_list_pool [] = None
  block_list_pool (x ∷ xs) = or_else (block_pool x) (block_list_pool xs)

  abbrev pub code_list_pool : List KCode → Option ℕ
  code_list_pool [] = None
  code_list_pool (x ∷ xs) = or_else (block_pool x.body) (code_list_pool xs)

abbrev pub size_or_none : Option ℕ → ℕ
size_or_none None = 0
size_or_none (Some n) = n
