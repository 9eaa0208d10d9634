-- One level of the pools of a kernel: each kind of statement, as the code builds it, and blocks by the lists that the code sees.
use Rattle.std.proofs.Common.{◌≡◌, refl, sym, ap, ◌∙◌, ℕ, List, [], ◌∷◌, ◌++◌, map, append_assoc, ◌+◌, ◌==◌, if◌then◌else◌}
use Rattle.std.proofs.lemmas.List.{map-append, append-nil}
use Rattle.ceu_tree.specs.declared.kernel.Kernel.{Kernel}
use Rattle.ceu_tree.specs.declared.kernel.KCode.{KCode}
use Rattle.ceu_tree.specs.declared.kernel.KDecl.{KDecl}
use Rattle.ceu_tree.specs.declared.kernel.KExp.{KExp}
use Rattle.ceu_tree.specs.declared.kernel.KArm.{KArm, KArm', out-KArm}
use Rattle.ceu_tree.specs.declared.kernel.KBlock.{KBlock, KBlock', out-KBlock, Row_of-KNode, end_of-KNode, more_of-KNode, items-the_row-KNode, items_shown-the_row-KNode-2}
use Rattle.ceu_tree.specs.declared.kernel.KStmt as k
use Rattle.ceu_tree.specs.declared.kernel.KStmt.{KStmt, Row_of-KArm, end_of-KArm, more_of-KArm, items-the_row-KArm, items_hidden-the_row-KArm-0, items_hidden-the_row-KBlock-1, Row_of-KBlock, end_of-KBlock, more_of-KBlock, items-the_row-KBlock}
use Rattle.ceu_tree.specs.declared.kernel.KStmt.TheBlock.{hidden-the_row-KArm-0, hidden-the_row-KBlock-1}
use Rattle.ceu_shape.specs.Searches.{PoolRow, pool_of, decls_pools, stmt_pools, block_pools, arm_pools, nodes_pools, arms_pools, blocks_pools, codes_pools, kernel_pools, row_in}
use Rattle.ceu_codegen.specs.declared.pools.Pool.{Pool}
use Rattle.ceu_codegen.specs.Pools.{as_pool, row_among, stmt_own, block_own, arm_own, decl_own, decl_list_own, node_list_own, arm_list_own, block_list_own, code_list_own}
use denote.Hole.Carrier

pub own_of_nothing : stmt_own k.Nothing ≡ []
unfolding stmt_own block_own stmt_pools
own_of_nothing = refl

pub own_of_assign : (l : _) (e : KExp) → stmt_own (k.Assign l e) ≡ []
unfolding stmt_own block_own stmt_pools
own_of_assign l e = refl

pub own_of_out : (n : ℕ) (e : _) → stmt_own (k.Out n e) ≡ []
unfolding stmt_own block_own stmt_pools
own_of_out n e = refl

pub own_of_emit : (n : ℕ) (e : _) → stmt_own (k.Emit n e) ≡ []
unfolding stmt_own block_own stmt_pools
own_of_emit n e = refl

pub own_of_await_in : (n : ℕ) (t : _) → stmt_own (k.AwaitIn n t) ≡ []
unfolding stmt_own block_own stmt_pools
own_of_await_in n t = refl

pub own_of_await_time : (e : KExp) (u : _) (t : _) → stmt_own (k.AwaitTime e u t) ≡ []
unfolding stmt_own block_own stmt_pools
own_of_await_time e u t = refl

pub own_of_await_event : (n : ℕ) (t : _) → stmt_own (k.AwaitEvent n t) ≡ []
unfolding stmt_own block_own stmt_pools
own_of_await_event n t = refl

pub own_of_forever : stmt_own k.Forever ≡ []
unfolding stmt_own block_own stmt_pools
own_of_forever = refl

pub own_of_await_code : (c : ℕ) (es : List KExp) (f : ℕ) (t : _) → stmt_own (k.AwaitCode c es f t) ≡ []
unfolding stmt_own block_own stmt_pools
own_of_await_code c es f t = refl

pub own_of_spawn : (c : ℕ) (es : List KExp) (p : ℕ) (a : _) → stmt_own (k.Spawn c es p a) ≡ []
unfolding stmt_own block_own stmt_pools
own_of_spawn c es p a = refl

pub own_of_kill : (n : ℕ) → stmt_own (k.Kill n) ≡ []
unfolding stmt_own block_own stmt_pools
own_of_kill n = refl

pub own_of_unset : (n : ℕ) → stmt_own (k.Unset n) ≡ []
unfolding stmt_own block_own stmt_pools
own_of_unset n = refl

pub own_of_escape : (n : ℕ) (e : _) → stmt_own (k.Escape n e) ≡ []
unfolding stmt_own block_own stmt_pools
own_of_escape n e = refl

pub own_of_break : (n : ℕ) → stmt_own (k.Break n) ≡ []
unfolding stmt_own block_own stmt_pools
own_of_break n = refl

pub own_of_continue : (n : ℕ) → stmt_own (k.Continue n) ≡ []
unfolding stmt_own block_own stmt_pools
own_of_continue n = refl

pub own_of_async : (b : KBlock) → stmt_own (k.Async b) ≡ block_own b
unfolding stmt_own block_own stmt_pools
own_of_async b = refl

pub own_of_finalize : (b : KBlock) → stmt_own (k.Finalize b) ≡ block_own b
unfolding stmt_own block_own stmt_pools
own_of_finalize b = refl

pub own_of_do : (t : _) (b : KBlock) → stmt_own (k.Do t b) ≡ block_own b
unfolding stmt_own block_own stmt_pools
own_of_do t b = refl

pub own_of_loop : (kind : _) (b : KBlock) → stmt_own (k.Loop kind b) ≡ block_own b
unfolding stmt_own block_own stmt_pools
own_of_loop kind b = refl

joined : (a b : List PoolRow) → map as_pool (a ++ b) ≡ map as_pool a ++ map as_pool b
joined a b = map-append as_pool a b

decls_row : (ds : List KDecl) → map as_pool (decls_pools ds) ≡ decl_list_own ds
decls_row [] = refl
decls_row (d ∷ ds) = joined (pool_of d.slot d.kind) (decls_pools ds) ∙ ap (λ (r : List Pool). decl_own d ++ r) (decls_row ds)

nodes_row : {n : _} (r : Row_of-KNode n) → map as_pool (nodes_pools r) ≡ node_list_own (items-the_row-KNode n r)
unfolding stmt_own stmt_pools
nodes_row end_of-KNode = refl
nodes_row (more_of-KNode n p s rest) = joined (stmt_pools s) (nodes_pools rest) ∙ ap (λ (r : List Pool). stmt_own s ++ r) (nodes_row rest)

arms_row : {n : _} (r : Row_of-KArm n) → map as_pool (arms_pools r) ≡ arm_list_own (items-the_row-KArm n r)
unfolding arm_own stmt_pools
arms_row end_of-KArm = refl
arms_row (more_of-KArm a rest) = joined (arm_pools a) (arms_pools rest) ∙ ap (λ (r : List Pool). arm_own a ++ r) (arms_row rest)

blocks_row : {n : _} (r : Row_of-KBlock n) → map as_pool (blocks_pools r) ≡ block_list_own (items-the_row-KBlock n r)
unfolding block_own stmt_pools
blocks_row end_of-KBlock = refl
blocks_row (more_of-KBlock b rest) = joined (block_pools b) (blocks_pools rest) ∙ ap (λ (r : List Pool). block_own b ++ r) (blocks_row rest)

pub own_of_block : (b : KBlock) → block_own b ≡ decl_list_own (out-KBlock b).decls ++ node_list_own (out-KBlock b).list
unfolding block_own stmt_pools out-KBlock Carrier.out
own_of_block (KBlock' n ds x list) =
    joined (decls_pools ds) (nodes_pools list) ∙ ap (λ (r : List Pool). r ++ map as_pool (nodes_pools list)) (decls_row ds)
    ∙ ap (λ (r : List Pool). decl_list_own ds ++ r) (nodes_row list ∙ sym (ap node_list_own (items_shown-the_row-KNode-2 x list)))

pub own_of_arm : (a : KArm) → arm_own a ≡ block_own (out-KArm a).body
unfolding arm_own block_own stmt_pools out-KArm Carrier.out
own_of_arm (KArm' c b) = refl

pub own_of_if : (arms : List KArm) (last : KBlock) → stmt_own (k.If arms last) ≡ arm_list_own arms ++ block_own last
unfolding stmt_own block_own stmt_pools
own_of_if arms last =
    joined (arms_pools (hidden-the_row-KArm-0 arms)) (block_pools last)
    ∙ ap (λ (r : List Pool). r ++ map as_pool (block_pools last)) (arms_row (hidden-the_row-KArm-0 arms) ∙ ap arm_list_own (items_hidden-the_row-KArm-0 arms))

pub own_of_par : (kind : _) (slot : ℕ) (bs : List KBlock) → stmt_own (k.Par kind slot bs) ≡ block_list_own bs
unfolding stmt_own stmt_pools
own_of_par kind slot bs = blocks_row (hidden-the_row-KBlock-1 bs) ∙ ap block_list_own (items_hidden-the_row-KBlock-1 bs)

pub ruleset collected = (own_of_nothing, own_of_assign, own_of_out, own_of_emit, own_of_await_in, own_of_await_time, own_of_await_event, own_of_forever, own_of_await_code, own_of_spawn, own_of_kill, own_of_unset, own_of_escape, own_of_break, own_of_continue, own_of_async, own_of_finalize, own_of_do, own_of_loop, own_of_block, own_of_arm, own_of_if, own_of_par, append_assoc, append-nil)

codes_row : (cs : List KCode) → map as_pool (codes_pools cs) ≡ code_list_own cs
unfolding block_own
codes_row [] = refl
codes_row (c ∷ cs) = joined (block_pools c.body) (codes_pools cs) ∙ ap (λ (r : List Pool). map as_pool (block_pools c.body) ++ r) (codes_row cs)

pub kernel_collected : (K : Kernel) → map as_pool (kernel_pools K) ≡ block_own K.body ++ code_list_own K.codes
unfolding kernel_pools block_own
kernel_collected K = joined (block_pools K.body) (codes_pools K.codes) ∙ ap (λ (r : List Pool). map as_pool (block_pools K.body) ++ r) (codes_row K.codes)

-- the row of a pool, among the pools that the code has
pub row_is : (slot : ℕ) (rs : List PoolRow) → row_among slot (map as_pool rs) ≡ row_in slot rs
row_is slot [] = refl
row_is slot (r ∷ rs) = ap (λ (n : ℕ). if r.slot == slot then 0 else (n + 1)) (row_is slot rs)
