-- One level of the search for the size of the pool at a slot.
use Rattle.std.proofs.Common.{◌≡◌, refl, sym, ap, ◌∙◌, ℕ, Bool, true, false, ◌==◌, if◌then◌else◌, List, [], ◌∷◌, ◌++◌, Option, Some, None}
use Rattle.ceu_tree.specs.declared.kernel.Kernel.{Kernel}
use Rattle.ceu_tree.specs.declared.kernel.KCode.{KCode}
use Rattle.ceu_tree.specs.declared.kernel.KDecl.{KDecl}
use Rattle.ceu_tree.specs.declared.kernel.KExp.{KExp}
use Rattle.ceu_tree.specs.declared.kernel.KArm.{KArm, KArm', out-KArm}
use Rattle.ceu_tree.specs.declared.kernel.KBlock.{KBlock, KBlock', out-KBlock, Row_of-KNode, end_of-KNode, more_of-KNode, items-the_row-KNode, items_shown-the_row-KNode-2}
use Rattle.ceu_tree.specs.declared.kernel.KStmt as k
use Rattle.ceu_tree.specs.declared.kernel.KStmt.{KStmt, Row_of-KArm, end_of-KArm, more_of-KArm, items-the_row-KArm, items_hidden-the_row-KArm-0, items_hidden-the_row-KBlock-1, Row_of-KBlock, end_of-KBlock, more_of-KBlock, items-the_row-KBlock}
use Rattle.ceu_tree.specs.declared.kernel.KStmt.TheBlock.{hidden-the_row-KArm-0, hidden-the_row-KBlock-1}
use denote.Hole.Carrier
use Rattle.ceu_shape.specs.Searches.{PoolRow, or_else, pool_of, decls_pools, stmt_pools, block_pools, arm_pools, nodes_pools, arms_pools, blocks_pools, codes_pools, kernel_pools, size_in, pool_size}
use Rattle.ceu_low_pool.specs.Lists.{found, stmt_pool, block_pool, arm_pool, decl_pool, decl_list_pool, node_list_pool, arm_list_pool, block_list_pool, code_list_pool, size_or_none}

found_append : (slot : ℕ) (a b : List PoolRow) → found slot (a ++ b) ≡ or_else (found slot a) (found slot b)
found_append slot [] b = refl
found_append slot (r ∷ rs) b = go (r.slot == slot) (found_append slot rs b)
  where
    go : (t : Bool) → found slot (rs ++ b) ≡ or_else (found slot rs) (found slot b) →
        (if t then Some r.size else found slot (rs ++ b)) ≡ or_else (if t then Some r.size else found slot rs) (found slot b)
    go true h = refl
    go false h = h

found_size : (slot : ℕ) (rs : List PoolRow) → size_in slot rs ≡ size_or_none (found slot rs)
found_size slot [] = refl
found_size slot (r ∷ rs) = go (r.slot == slot) (found_size slot rs)
  where
    go : (t : Bool) → size_in slot rs ≡ size_or_none (found slot rs) → (if t then r.size else size_in slot rs) ≡ size_or_none (if t then Some r.size else found slot rs)
    go true h = refl
    go false h = h

pub nothing_pool : (slot : ℕ) → stmt_pool slot k.Nothing ≡ None
unfolding stmt_pool block_pool stmt_pools
nothing_pool slot = refl

pub assign_pool : (slot : ℕ) (l : _) (e : KExp) → stmt_pool slot (k.Assign l e) ≡ None
unfolding stmt_pool block_pool stmt_pools
assign_pool slot l e = refl

pub out_pool : (slot : ℕ) (n : ℕ) (e : _) → stmt_pool slot (k.Out n e) ≡ None
unfolding stmt_pool block_pool stmt_pools
out_pool slot n e = refl

pub emit_pool : (slot : ℕ) (n : ℕ) (e : _) → stmt_pool slot (k.Emit n e) ≡ None
unfolding stmt_pool block_pool stmt_pools
emit_pool slot n e = refl

pub await_in_pool : (slot : ℕ) (n : ℕ) (t : _) → stmt_pool slot (k.AwaitIn n t) ≡ None
unfolding stmt_pool block_pool stmt_pools
await_in_pool slot n t = refl

pub await_time_pool : (slot : ℕ) (e : KExp) (u : _) (t : _) → stmt_pool slot (k.AwaitTime e u t) ≡ None
unfolding stmt_pool block_pool stmt_pools
await_time_pool slot e u t = refl

pub await_event_pool : (slot : ℕ) (n : ℕ) (t : _) → stmt_pool slot (k.AwaitEvent n t) ≡ None
unfolding stmt_pool block_pool stmt_pools
await_event_pool slot n t = refl

pub forever_pool : (slot : ℕ) → stmt_pool slot k.Forever ≡ None
unfolding stmt_pool block_pool stmt_pools
forever_pool slot = refl

pub await_code_pool : (slot : ℕ) (c : ℕ) (es : List KExp) (f : ℕ) (t : _) → stmt_pool slot (k.AwaitCode c es f t) ≡ None
unfolding stmt_pool block_pool stmt_pools
await_code_pool slot c es f t = refl

pub spawn_pool : (slot : ℕ) (c : ℕ) (es : List KExp) (p : ℕ) (a : _) → stmt_pool slot (k.Spawn c es p a) ≡ None
unfolding stmt_pool block_pool stmt_pools
spawn_pool slot c es p a = refl

pub kill_pool : (slot : ℕ) (n : ℕ) → stmt_pool slot (k.Kill n) ≡ None
unfolding stmt_pool block_pool stmt_pools
kill_pool slot n = refl

pub unset_pool : (slot : ℕ) (n : ℕ) → stmt_pool slot (k.Unset n) ≡ None
unfolding stmt_pool block_pool stmt_pools
unset_pool slot n = refl

pub escape_pool : (slot : ℕ) (n : ℕ) (e : _) → stmt_pool slot (k.Escape n e) ≡ None
unfolding stmt_pool block_pool stmt_pools
escape_pool slot n e = refl

pub break_pool : (slot : ℕ) (n : ℕ) → stmt_pool slot (k.Break n) ≡ None
unfolding stmt_pool block_pool stmt_pools
break_pool slot n = refl

pub continue_pool : (slot : ℕ) (n : ℕ) → stmt_pool slot (k.Continue n) ≡ None
unfolding stmt_pool block_pool stmt_pools
continue_pool slot n = refl

pub inner_async_pool : (slot : ℕ) (b : KBlock) → stmt_pool slot (k.Async b) ≡ block_pool slot b
unfolding stmt_pool block_pool stmt_pools
inner_async_pool slot b = refl

pub finalize_pool : (slot : ℕ) (b : KBlock) → stmt_pool slot (k.Finalize b) ≡ block_pool slot b
unfolding stmt_pool block_pool stmt_pools
finalize_pool slot b = refl

pub loop_pool : (slot : ℕ) (kind : _) (b : KBlock) → stmt_pool slot (k.Loop kind b) ≡ block_pool slot b
unfolding stmt_pool block_pool stmt_pools
loop_pool slot kind b = refl

pub do_pool : (slot : ℕ) (t : _) (b : KBlock) → stmt_pool slot (k.Do t b) ≡ block_pool slot b
unfolding stmt_pool block_pool stmt_pools
do_pool slot t b = refl

node_row : (slot : ℕ) {n : _} (r : Row_of-KNode n) → found slot (nodes_pools r) ≡ node_list_pool slot (items-the_row-KNode n r)
unfolding stmt_pool stmt_pools
node_row slot end_of-KNode = refl
node_row slot (more_of-KNode n p s rest) = found_append slot (stmt_pools s) (nodes_pools rest) ∙ ap (or_else (found slot (stmt_pools s))) (node_row slot rest)

arm_row : (slot : ℕ) {n : _} (r : Row_of-KArm n) → found slot (arms_pools r) ≡ arm_list_pool slot (items-the_row-KArm n r)
unfolding arm_pool stmt_pools
arm_row slot end_of-KArm = refl
arm_row slot (more_of-KArm a rest) = found_append slot (arm_pools a) (arms_pools rest) ∙ ap (or_else (found slot (arm_pools a))) (arm_row slot rest)

block_row : (slot : ℕ) {n : _} (r : Row_of-KBlock n) → found slot (blocks_pools r) ≡ block_list_pool slot (items-the_row-KBlock n r)
unfolding block_pool stmt_pools
block_row slot end_of-KBlock = refl
block_row slot (more_of-KBlock b rest) = found_append slot (block_pools b) (blocks_pools rest) ∙ ap (or_else (found slot (block_pools b))) (block_row slot rest)

decl_row : (slot : ℕ) (ds : List KDecl) → found slot (decls_pools ds) ≡ decl_list_pool slot ds
decl_row slot [] = refl
decl_row slot (d ∷ ds) = found_append slot (pool_of d.slot d.kind) (decls_pools ds) ∙ ap (or_else (decl_pool slot d)) (decl_row slot ds)

pub block_pool_is : (slot : ℕ) (b : KBlock) → block_pool slot b ≡ or_else (decl_list_pool slot (out-KBlock b).decls) (node_list_pool slot (out-KBlock b).list)
unfolding block_pool stmt_pools out-KBlock Carrier.out
block_pool_is slot (KBlock' n ds x list) =
    found_append slot (decls_pools ds) (nodes_pools list) ∙ ap (λ (a : Option ℕ). or_else a (found slot (nodes_pools list))) (decl_row slot ds)
    ∙ ap (or_else (decl_list_pool slot ds)) (node_row slot list ∙ sym (ap (node_list_pool slot) (items_shown-the_row-KNode-2 x list)))

pub arm_pool_is : (slot : ℕ) (a : KArm) → arm_pool slot a ≡ block_pool slot (out-KArm a).body
unfolding arm_pool block_pool stmt_pools out-KArm Carrier.out
arm_pool_is slot (KArm' c b) = refl

pub if_pool : (slot : ℕ) (arms : List KArm) (last : KBlock) → stmt_pool slot (k.If arms last) ≡ or_else (arm_list_pool slot arms) (block_pool slot last)
unfolding stmt_pool block_pool stmt_pools
if_pool slot arms last =
    found_append slot (arms_pools (hidden-the_row-KArm-0 arms)) (block_pools last)
    ∙ ap (λ (t : Option ℕ). or_else t (found slot (block_pools last))) (arm_row slot (hidden-the_row-KArm-0 arms) ∙ ap (arm_list_pool slot) (items_hidden-the_row-KArm-0 arms))

pub par_pool : (slot : ℕ) (kind : _) (first : ℕ) (bs : List KBlock) → stmt_pool slot (k.Par kind first bs) ≡ block_list_pool slot bs
unfolding stmt_pool stmt_pools
par_pool slot kind first bs = block_row slot (hidden-the_row-KBlock-1 bs) ∙ ap (block_list_pool slot) (items_hidden-the_row-KBlock-1 bs)

pub ruleset pools = (nothing_pool, assign_pool, out_pool, emit_pool, await_in_pool, await_time_pool, await_event_pool, forever_pool, await_code_pool, spawn_pool, kill_pool, unset_pool, escape_pool, break_pool, continue_pool, inner_async_pool, finalize_pool, loop_pool, do_pool, block_pool_is, arm_pool_is, if_pool, par_pool)

code_row : (slot : ℕ) (cs : List KCode) → found slot (codes_pools cs) ≡ code_list_pool slot cs
unfolding block_pool
code_row slot [] = refl
code_row slot (c ∷ cs) = found_append slot (block_pools c.body) (codes_pools cs) ∙ ap (or_else (found slot (block_pools c.body))) (code_row slot cs)

pub pool_size_is : (K : Kernel) (slot : ℕ) → pool_size K slot ≡ size_or_none (or_else (block_pool slot K.body) (code_list_pool slot K.codes))
unfolding kernel_pools block_pool
pool_size_is K slot =
    found_size slot (block_pools K.body ++ codes_pools K.codes)
    ∙ ap size_or_none (found_append slot (block_pools K.body) (codes_pools K.codes) ∙ ap (or_else (found slot (block_pools K.body))) (code_row slot K.codes))
