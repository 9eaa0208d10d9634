-- One level of the ranges of gates: each kind of statement, as the code builds it, and blocks by the lists that the code sees.
use Rattle.std.proofs.Common.{◌≡◌, refl, sym, ap, ◌∙◌, ℕ, ◌+◌, List, [], ◌∷◌, ◌++◌}
use Rattle.ceu_tree.specs.declared.kernel.KExp.{KExp}
use Rattle.ceu_tree.specs.declared.kernel.KArm.{KArm, KArm', out-KArm}
use Rattle.ceu_tree.specs.declared.kernel.KBlock.{KBlock, KBlock', out-KBlock, Row_of-KNode, end_of-KNode, more_of-KNode, items-the_row-KNode, items_shown-the_row-KNode-2}
use Rattle.ceu_tree.specs.declared.kernel.KStmt as k
use Rattle.ceu_tree.specs.declared.kernel.KStmt.{KStmt, Row_of-KArm, end_of-KArm, more_of-KArm, items-the_row-KArm, items_hidden-the_row-KArm-0, items_hidden-the_row-KBlock-1, Row_of-KBlock, end_of-KBlock, more_of-KBlock, items-the_row-KBlock}
use Rattle.ceu_tree.specs.declared.kernel.KStmt.TheBlock.{hidden-the_row-KArm-0, hidden-the_row-KBlock-1}
use Rattle.ceu_tree.specs.Greatest.{total}
use Rattle.ceu_tree.specs.Needs.{finalizers, node_finalizers, nodes_finalizers, pools_gates, stmt_gates, block_gates}
use Rattle.ceu_gates.specs.Ranges.{range, starts, stmt_ranges, block_ranges, arm_ranges, nodes_ranges, arms_ranges, blocks_ranges, list_ranges, arm_list_ranges, block_list_ranges}
use denote.Hole.Carrier

pub ranges_of_nothing : (gates : List ℕ) (g : ℕ) → stmt_ranges gates g k.Nothing ≡ []
unfolding stmt_ranges
ranges_of_nothing gates g = refl

pub ranges_of_assign : (gates : List ℕ) (g : ℕ) (l : _) (e : KExp) → stmt_ranges gates g (k.Assign l e) ≡ []
unfolding stmt_ranges
ranges_of_assign gates g l e = refl

pub ranges_of_out : (gates : List ℕ) (g : ℕ) (n : ℕ) (e : _) → stmt_ranges gates g (k.Out n e) ≡ []
unfolding stmt_ranges
ranges_of_out gates g n e = refl

pub ranges_of_emit : (gates : List ℕ) (g : ℕ) (n : ℕ) (e : _) → stmt_ranges gates g (k.Emit n e) ≡ []
unfolding stmt_ranges
ranges_of_emit gates g n e = refl

pub ranges_of_await_in : (gates : List ℕ) (g : ℕ) (n : ℕ) (t : _) → stmt_ranges gates g (k.AwaitIn n t) ≡ []
unfolding stmt_ranges
ranges_of_await_in gates g n t = refl

pub ranges_of_await_time : (gates : List ℕ) (g : ℕ) (e : KExp) (u : _) (t : _) → stmt_ranges gates g (k.AwaitTime e u t) ≡ []
unfolding stmt_ranges
ranges_of_await_time gates g e u t = refl

pub ranges_of_await_event : (gates : List ℕ) (g : ℕ) (n : ℕ) (t : _) → stmt_ranges gates g (k.AwaitEvent n t) ≡ []
unfolding stmt_ranges
ranges_of_await_event gates g n t = refl

pub ranges_of_forever : (gates : List ℕ) (g : ℕ) → stmt_ranges gates g k.Forever ≡ []
unfolding stmt_ranges
ranges_of_forever gates g = refl

pub ranges_of_await_code : (gates : List ℕ) (g : ℕ) (c : ℕ) (es : List KExp) (f : ℕ) (t : _) → stmt_ranges gates g (k.AwaitCode c es f t) ≡ []
unfolding stmt_ranges
ranges_of_await_code gates g c es f t = refl

pub ranges_of_spawn : (gates : List ℕ) (g : ℕ) (c : ℕ) (es : List KExp) (p : ℕ) (a : _) → stmt_ranges gates g (k.Spawn c es p a) ≡ []
unfolding stmt_ranges
ranges_of_spawn gates g c es p a = refl

pub ranges_of_kill : (gates : List ℕ) (g : ℕ) (n : ℕ) → stmt_ranges gates g (k.Kill n) ≡ []
unfolding stmt_ranges
ranges_of_kill gates g n = refl

pub ranges_of_unset : (gates : List ℕ) (g : ℕ) (n : ℕ) → stmt_ranges gates g (k.Unset n) ≡ []
unfolding stmt_ranges
ranges_of_unset gates g n = refl

pub ranges_of_escape : (gates : List ℕ) (g : ℕ) (n : ℕ) (e : _) → stmt_ranges gates g (k.Escape n e) ≡ []
unfolding stmt_ranges
ranges_of_escape gates g n e = refl

pub ranges_of_break : (gates : List ℕ) (g : ℕ) (n : ℕ) → stmt_ranges gates g (k.Break n) ≡ []
unfolding stmt_ranges
ranges_of_break gates g n = refl

pub ranges_of_continue : (gates : List ℕ) (g : ℕ) (n : ℕ) → stmt_ranges gates g (k.Continue n) ≡ []
unfolding stmt_ranges
ranges_of_continue gates g n = refl

pub ranges_of_async : (gates : List ℕ) (g : ℕ) (b : KBlock) → stmt_ranges gates g (k.Async b) ≡ block_ranges gates g b
unfolding stmt_ranges
ranges_of_async gates g b = refl

pub ranges_of_finalize : (gates : List ℕ) (g : ℕ) (b : KBlock) → stmt_ranges gates g (k.Finalize b) ≡ block_ranges gates g b
unfolding stmt_ranges
ranges_of_finalize gates g b = refl

pub ranges_of_do : (gates : List ℕ) (g : ℕ) (t : _) (b : KBlock) → stmt_ranges gates g (k.Do t b) ≡ block_ranges gates g b
unfolding stmt_ranges
ranges_of_do gates g t b = refl

pub ranges_of_loop : (gates : List ℕ) (g : ℕ) (kind : _) (b : KBlock) → stmt_ranges gates g (k.Loop kind b) ≡ block_ranges gates g b
unfolding stmt_ranges
ranges_of_loop gates g kind b = refl

nodes_row : (gates : List ℕ) (f g : ℕ) {n : _} (r : Row_of-KNode n) → nodes_ranges gates f g r ≡ list_ranges gates f g (items-the_row-KNode n r)
unfolding stmt_ranges
nodes_row gates f g end_of-KNode = refl
nodes_row gates f g (more_of-KNode n p s rest) =
    ap (λ k. range n (starts f g s) (stmt_gates gates s) ∷ (stmt_ranges gates (starts f g s) s ++ k)) (nodes_row gates (f + finalizers s) g rest)

arms_row : (gates : List ℕ) (g : ℕ) {n : _} (r : Row_of-KArm n) → arms_ranges gates g r ≡ arm_list_ranges gates g (items-the_row-KArm n r)
unfolding stmt_ranges
arms_row gates g end_of-KArm = refl
arms_row gates g (more_of-KArm a rest) = ap (λ k. arm_ranges gates g a ++ k) (arms_row gates g rest)

blocks_row : (gates : List ℕ) (g : ℕ) {n : _} (r : Row_of-KBlock n) → blocks_ranges gates g r ≡ block_list_ranges gates g (items-the_row-KBlock n r)
unfolding stmt_ranges
blocks_row gates g end_of-KBlock = refl
blocks_row gates g (more_of-KBlock b rest) = ap (λ k. block_ranges gates g b ++ k) (blocks_row gates (g + block_gates gates b) rest)

finalizers_row : {n : _} (r : Row_of-KNode n) → nodes_finalizers r ≡ total node_finalizers (items-the_row-KNode n r)
unfolding nodes_finalizers
finalizers_row end_of-KNode = refl
finalizers_row (more_of-KNode n p s rest) = ap (λ k. finalizers s + k) (finalizers_row rest)

pub ranges_of_block : (gates : List ℕ) (g : ℕ) (b : KBlock) →
    block_ranges gates g b ≡ range (out-KBlock b).node g (block_gates gates b) ∷ list_ranges gates g (g + (total node_finalizers (out-KBlock b).list + pools_gates gates (out-KBlock b).decls)) (out-KBlock b).list
unfolding stmt_ranges out-KBlock Carrier.out
ranges_of_block gates g (KBlock' n ds x list) =
    let first = range n g (block_gates gates (KBlock' n ds x list)) in
    ap (λ k. first ∷ nodes_ranges gates g (g + (k + pools_gates gates ds)) list) (finalizers_row list ∙ sym (ap (total node_finalizers) (items_shown-the_row-KNode-2 x list))) ∙
    ap (λ k. first ∷ k) (nodes_row gates g (g + (total node_finalizers (out-KBlock (KBlock' n ds x list)).list + pools_gates gates ds)) list ∙
    sym (ap (list_ranges gates g (g + (total node_finalizers (out-KBlock (KBlock' n ds x list)).list + pools_gates gates ds))) (items_shown-the_row-KNode-2 x list)))

pub ranges_of_arm : (gates : List ℕ) (g : ℕ) (a : KArm) → arm_ranges gates g a ≡ block_ranges gates g (out-KArm a).body
unfolding stmt_ranges out-KArm Carrier.out
ranges_of_arm gates g (KArm' c b) = refl

pub ranges_of_if : (gates : List ℕ) (g : ℕ) (arms : List KArm) (last : KBlock) → stmt_ranges gates g (k.If arms last) ≡ arm_list_ranges gates g arms ++ block_ranges gates g last
unfolding stmt_ranges
ranges_of_if gates g arms last = ap (λ k. k ++ block_ranges gates g last) (arms_row gates g (hidden-the_row-KArm-0 arms) ∙ ap (arm_list_ranges gates g) (items_hidden-the_row-KArm-0 arms))

pub ranges_of_par : (gates : List ℕ) (g : ℕ) (kind : _) (slot : ℕ) (bs : List KBlock) → stmt_ranges gates g (k.Par kind slot bs) ≡ block_list_ranges gates g bs
unfolding stmt_ranges
ranges_of_par gates g kind slot bs = blocks_row gates g (hidden-the_row-KBlock-1 bs) ∙ ap (block_list_ranges gates g) (items_hidden-the_row-KBlock-1 bs)

pub ruleset ranges = (ranges_of_nothing, ranges_of_assign, ranges_of_out, ranges_of_emit, ranges_of_await_in, ranges_of_await_time, ranges_of_await_event, ranges_of_forever, ranges_of_await_code, ranges_of_spawn, ranges_of_kill, ranges_of_unset, ranges_of_escape, ranges_of_break, ranges_of_continue, ranges_of_async, ranges_of_finalize, ranges_of_do, ranges_of_loop, ranges_of_block, ranges_of_arm, ranges_of_if, ranges_of_par)
