-- The pools of a kernel, as the code has them.
use Rattle.std.specs.Prelude.{ℕ, ◌+◌, ◌==◌, if◌then◌else◌, List, [], ◌∷◌, ◌++◌, map}
use Rattle.ceu_tree.specs.declared.kernel.KDecl.{KDecl}
use Rattle.ceu_tree.specs.declared.kernel.KNode.{KNode}
use Rattle.ceu_tree.specs.declared.kernel.KArm.{KArm}
use Rattle.ceu_tree.specs.declared.kernel.KBlock.{KBlock}
use Rattle.ceu_tree.specs.declared.kernel.KCode.{KCode}
use Rattle.ceu_tree.specs.declared.kernel.KStmt.{KStmt}
use Rattle.ceu_shape.specs.Searches.{PoolRow, pool_of, stmt_pools, block_pools, arm_pools}
use Rattle.ceu_codegen.specs.declared.pools.Pool.{Pool}

abbrev pub as_pool : PoolRow → Pool
as_pool r = record { slot = r.slot; code = r.code }

-- how many stand before the first at this slot
abbrev pub row_among : (slot : ℕ) → List Pool → ℕ
row_among slot [] = 0
row_among slot (r ∷ rs) = if r.slot == slot then 0 else (row_among slot rs + 1)

-- ---- the pools of a part, over the lists that the code walks

unfoldable pub stmt_own : KStmt → List Pool
stmt_own s = map as_pool (stmt_pools s)

unfoldable pub block_own : KBlock → List Pool
block_own b = map as_pool (block_pools b)

unfoldable pub arm_own : KArm → List Pool
arm_own a = map as_pool (arm_pools a)

abbrev pub decl_own : KDecl → List Pool
decl_own d = map as_pool (pool_of d.slot d.kind)

abbrev pub decl_list_own : List KDecl → List Pool
decl_list_own [] = []
decl_list_own (d ∷ ds) = decl_own d ++ decl_list_own ds

abbrev pub node_list_own : List KNode → List Pool
node_list_own [] = []
node_list_own (x ∷ xs) = stmt_own x.stmt ++ node_list_own xs

abbrev pub arm_list_own : List KArm → List Pool
arm_list_own [] = []
arm_list_own (x ∷ xs) = arm_own x ++ arm_list_own xs

abbrev pub block_list_own : List KBlock → List Pool
block_list_own [] = []
block_list_own (x ∷ xs) = block_own x ++ block_list_own xs

abbrev pub code_list_own : List KCode → List Pool
code_list_own [] = []
code_list_own (x ∷ xs) = block_own x.body ++ code_list_own xs
