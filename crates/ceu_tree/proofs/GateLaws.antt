-- One level of the need of gates.
use Rattle.std.proofs.Common.{◌≡◌, refl, sym, ap, ◌∙◌, ℕ, ◌+◌, max, List}
use Rattle.ceu_tree.specs.declared.kernel.KExp.{KExp}
use Rattle.ceu_tree.specs.declared.kernel.KArm.{KArm, KArm', out-KArm}
use Rattle.ceu_tree.specs.declared.kernel.KBlock.{KBlock, KBlock', out-KBlock, Row_of-KNode, end_of-KNode, more_of-KNode, items-the_row-KNode, items_shown-the_row-KNode-2}
use Rattle.ceu_tree.specs.declared.kernel.KStmt as k
use Rattle.ceu_tree.specs.declared.kernel.KStmt.{KStmt, out-KStmt, Row_of-KArm, end_of-KArm, more_of-KArm, items-the_row-KArm, items_hidden-the_row-KArm-0, items_hidden-the_row-KBlock-1, Row_of-KBlock, end_of-KBlock, more_of-KBlock, items-the_row-KBlock}
use Rattle.ceu_tree.specs.declared.kernel.KStmt.TheBlock.{hidden-the_row-KArm-0, hidden-the_row-KBlock-1}
use Rattle.ceu_tree.specs.Greatest.{greatest, total}
use Rattle.ceu_tree.specs.Needs.{entry, finalizers, node_finalizers, nodes_finalizers, pools_gates, stmt_gates, block_gates, arm_gates, nodes_gates, arms_gates, blocks_gates, node_gates}
use denote.Hole.Carrier

pub gates_of_nothing : (gates : List ℕ) → stmt_gates gates k.Nothing ≡ 1
unfolding stmt_gates
gates_of_nothing gates = refl

pub gates_of_assign : (gates : List ℕ) (l : _) (e : KExp) → stmt_gates gates (k.Assign l e) ≡ 1
unfolding stmt_gates
gates_of_assign gates l e = refl

pub gates_of_out : (gates : List ℕ) (n : ℕ) (e : _) → stmt_gates gates (k.Out n e) ≡ 1
unfolding stmt_gates
gates_of_out gates n e = refl

pub gates_of_emit : (gates : List ℕ) (n : ℕ) (e : _) → stmt_gates gates (k.Emit n e) ≡ 1
unfolding stmt_gates
gates_of_emit gates n e = refl

pub gates_of_await_in : (gates : List ℕ) (n : ℕ) (t : _) → stmt_gates gates (k.AwaitIn n t) ≡ 1
unfolding stmt_gates
gates_of_await_in gates n t = refl

pub gates_of_await_time : (gates : List ℕ) (e : KExp) (u : _) (t : _) → stmt_gates gates (k.AwaitTime e u t) ≡ 1
unfolding stmt_gates
gates_of_await_time gates e u t = refl

pub gates_of_await_event : (gates : List ℕ) (n : ℕ) (t : _) → stmt_gates gates (k.AwaitEvent n t) ≡ 1
unfolding stmt_gates
gates_of_await_event gates n t = refl

pub gates_of_forever : (gates : List ℕ) → stmt_gates gates k.Forever ≡ 1
unfolding stmt_gates
gates_of_forever gates = refl

pub gates_of_await_code : (gates : List ℕ) (c : ℕ) (es : List KExp) (f : ℕ) (t : _) → stmt_gates gates (k.AwaitCode c es f t) ≡ entry c gates
unfolding stmt_gates
gates_of_await_code gates c es f t = refl

pub gates_of_spawn : (gates : List ℕ) (c : ℕ) (es : List KExp) (p : ℕ) (a : _) → stmt_gates gates (k.Spawn c es p a) ≡ 1
unfolding stmt_gates
gates_of_spawn gates c es p a = refl

pub gates_of_kill : (gates : List ℕ) (n : ℕ) → stmt_gates gates (k.Kill n) ≡ 1
unfolding stmt_gates
gates_of_kill gates n = refl

pub gates_of_unset : (gates : List ℕ) (n : ℕ) → stmt_gates gates (k.Unset n) ≡ 1
unfolding stmt_gates
gates_of_unset gates n = refl

pub gates_of_async : (gates : List ℕ) (b : KBlock) → stmt_gates gates (k.Async b) ≡ 1
unfolding stmt_gates
gates_of_async gates b = refl

pub gates_of_finalize : (gates : List ℕ) (b : KBlock) → stmt_gates gates (k.Finalize b) ≡ 1
unfolding stmt_gates
gates_of_finalize gates b = refl

pub gates_of_do : (gates : List ℕ) (t : _) (b : KBlock) → stmt_gates gates (k.Do t b) ≡ block_gates gates b
unfolding stmt_gates
gates_of_do gates t b = refl

pub gates_of_escape : (gates : List ℕ) (n : ℕ) (e : _) → stmt_gates gates (k.Escape n e) ≡ 1
unfolding stmt_gates
gates_of_escape gates n e = refl

pub gates_of_break : (gates : List ℕ) (n : ℕ) → stmt_gates gates (k.Break n) ≡ 1
unfolding stmt_gates
gates_of_break gates n = refl

pub gates_of_continue : (gates : List ℕ) (n : ℕ) → stmt_gates gates (k.Continue n) ≡ 1
unfolding stmt_gates
gates_of_continue gates n = refl

pub gates_of_loop : (gates : List ℕ) (kind : _) (b : KBlock) → stmt_gates gates (k.Loop kind b) ≡ block_gates gates b
unfolding stmt_gates
gates_of_loop gates kind b = refl

gates_KNode_row : (gates : List ℕ) {n : _} (r : Row_of-KNode n) → nodes_gates gates r ≡ greatest (node_gates gates) (items-the_row-KNode n r)
unfolding stmt_gates
gates_KNode_row gates end_of-KNode = refl
gates_KNode_row gates (more_of-KNode n p s rest) = ap (λ k. max (stmt_gates gates s) k) (gates_KNode_row gates rest)

gates_KArm_row : (gates : List ℕ) {n : _} (r : Row_of-KArm n) → arms_gates gates r ≡ greatest (arm_gates gates) (items-the_row-KArm n r)
unfolding stmt_gates
gates_KArm_row gates end_of-KArm = refl
gates_KArm_row gates (more_of-KArm b rest) = ap (λ k. max (arm_gates gates b) k) (gates_KArm_row gates rest)

gates_KBlock_row : (gates : List ℕ) {n : _} (r : Row_of-KBlock n) → blocks_gates gates r ≡ total (block_gates gates) (items-the_row-KBlock n r)
unfolding stmt_gates
gates_KBlock_row gates end_of-KBlock = refl
gates_KBlock_row gates (more_of-KBlock b rest) = ap (λ k. block_gates gates b + k) (gates_KBlock_row gates rest)

finalizers_row : {n : _} (r : Row_of-KNode n) → nodes_finalizers r ≡ total node_finalizers (items-the_row-KNode n r)
unfolding nodes_finalizers
finalizers_row end_of-KNode = refl
finalizers_row (more_of-KNode n p s rest) = ap (λ k. finalizers s + k) (finalizers_row rest)

pub gates_of_block : (gates : List ℕ) (b : KBlock) → block_gates gates b ≡ max 1 (total node_finalizers (out-KBlock b).list + pools_gates gates (out-KBlock b).decls + greatest (node_gates gates) (out-KBlock b).list)
unfolding stmt_gates out-KBlock Carrier.out
gates_of_block gates (KBlock' n ds x list) =
    ap (λ k. max 1 (k + pools_gates gates ds + nodes_gates gates list)) (finalizers_row list ∙ sym (ap (total node_finalizers) (items_shown-the_row-KNode-2 x list))) ∙
    ap (λ k. max 1 (total node_finalizers (out-KBlock (KBlock' n ds x list)).list + pools_gates gates ds + k)) (gates_KNode_row gates list ∙ sym (ap (greatest (node_gates gates)) (items_shown-the_row-KNode-2 x list)))

pub gates_of_arm : (gates : List ℕ) (a : KArm) → arm_gates gates a ≡ block_gates gates (out-KArm a).body
unfolding stmt_gates out-KArm Carrier.out
gates_of_arm gates (KArm' c b) = refl

pub gates_of_if : (gates : List ℕ) (arms : List KArm) (last : KBlock) → stmt_gates gates (k.If arms last) ≡ max (greatest (arm_gates gates) arms) (block_gates gates last)
unfolding stmt_gates
gates_of_if gates arms last = ap (λ k. max k (block_gates gates last)) (gates_KArm_row gates (hidden-the_row-KArm-0 arms) ∙ ap (greatest (arm_gates gates)) (items_hidden-the_row-KArm-0 arms))

pub gates_of_par : (gates : List ℕ) (kind : _) (slot : ℕ) (bs : List KBlock) → stmt_gates gates (k.Par kind slot bs) ≡ total (block_gates gates) bs
unfolding stmt_gates
gates_of_par gates kind slot bs = ap (λ k. k) (gates_KBlock_row gates (hidden-the_row-KBlock-1 bs) ∙ ap (total (block_gates gates)) (items_hidden-the_row-KBlock-1 bs))

pub ruleset gate_needs = (gates_of_nothing, gates_of_assign, gates_of_out, gates_of_emit, gates_of_await_in, gates_of_await_time, gates_of_await_event, gates_of_forever, gates_of_await_code, gates_of_spawn, gates_of_kill, gates_of_unset, gates_of_async, gates_of_finalize, gates_of_do, gates_of_escape, gates_of_break, gates_of_continue, gates_of_loop, gates_of_block, gates_of_arm, gates_of_if, gates_of_par)
