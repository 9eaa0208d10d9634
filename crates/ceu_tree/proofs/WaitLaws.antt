-- One level of the question whether a statement holds an await, an async or a pool.
use Rattle.std.proofs.Common.{◌≡◌, refl, sym, ap, ◌∙◌, ℕ, true, false, ◌||◌, List}
use Rattle.std.specs.List.{list_any}
use Rattle.ceu_tree.specs.declared.kernel.KExp.{KExp}
use Rattle.ceu_tree.specs.declared.kernel.KArm.{KArm, KArm', out-KArm}
use Rattle.ceu_tree.specs.declared.kernel.KBlock.{KBlock, KBlock', out-KBlock, Row_of-KNode, end_of-KNode, more_of-KNode, items-the_row-KNode, items_shown-the_row-KNode-2}
use Rattle.ceu_tree.specs.declared.kernel.KStmt as k
use Rattle.ceu_tree.specs.declared.kernel.KStmt.{KStmt, out-KStmt, Row_of-KArm, end_of-KArm, more_of-KArm, items-the_row-KArm, items_hidden-the_row-KArm-0, items_hidden-the_row-KBlock-1, Row_of-KBlock, end_of-KBlock, more_of-KBlock, items-the_row-KBlock}
use Rattle.ceu_tree.specs.declared.kernel.KStmt.TheBlock.{hidden-the_row-KArm-0, hidden-the_row-KBlock-1}
use Rattle.ceu_tree.specs.Costs.{has_pool_decl, stands_waiting, waiting_block, waiting_arm, waiting_nodes, waiting_arms, waiting_blocks, node_waits}
use denote.Hole.Carrier

pub waits_of_nothing : stands_waiting k.Nothing ≡ false
unfolding stands_waiting
waits_of_nothing = refl

pub waits_of_assign : (l : _) (e : KExp) → stands_waiting (k.Assign l e) ≡ false
unfolding stands_waiting
waits_of_assign l e = refl

pub waits_of_out : (n : ℕ) (e : _) → stands_waiting (k.Out n e) ≡ false
unfolding stands_waiting
waits_of_out n e = refl

pub waits_of_emit : (n : ℕ) (e : _) → stands_waiting (k.Emit n e) ≡ false
unfolding stands_waiting
waits_of_emit n e = refl

pub waits_of_await_in : (n : ℕ) (t : _) → stands_waiting (k.AwaitIn n t) ≡ true
unfolding stands_waiting
waits_of_await_in n t = refl

pub waits_of_await_time : (e : KExp) (u : _) (t : _) → stands_waiting (k.AwaitTime e u t) ≡ true
unfolding stands_waiting
waits_of_await_time e u t = refl

pub waits_of_await_event : (n : ℕ) (t : _) → stands_waiting (k.AwaitEvent n t) ≡ true
unfolding stands_waiting
waits_of_await_event n t = refl

pub waits_of_forever : stands_waiting k.Forever ≡ true
unfolding stands_waiting
waits_of_forever = refl

pub waits_of_await_code : (c : ℕ) (es : List KExp) (f : ℕ) (t : _) → stands_waiting (k.AwaitCode c es f t) ≡ true
unfolding stands_waiting
waits_of_await_code c es f t = refl

pub waits_of_spawn : (c : ℕ) (es : List KExp) (p : ℕ) (a : _) → stands_waiting (k.Spawn c es p a) ≡ false
unfolding stands_waiting
waits_of_spawn c es p a = refl

pub waits_of_kill : (n : ℕ) → stands_waiting (k.Kill n) ≡ false
unfolding stands_waiting
waits_of_kill n = refl

pub waits_of_unset : (n : ℕ) → stands_waiting (k.Unset n) ≡ false
unfolding stands_waiting
waits_of_unset n = refl

pub waits_of_async : (b : KBlock) → stands_waiting (k.Async b) ≡ true
unfolding stands_waiting
waits_of_async b = refl

pub waits_of_finalize : (b : KBlock) → stands_waiting (k.Finalize b) ≡ false
unfolding stands_waiting
waits_of_finalize b = refl

pub waits_of_do : (t : _) (b : KBlock) → stands_waiting (k.Do t b) ≡ waiting_block b
unfolding stands_waiting
waits_of_do t b = refl

pub waits_of_escape : (n : ℕ) (e : _) → stands_waiting (k.Escape n e) ≡ false
unfolding stands_waiting
waits_of_escape n e = refl

pub waits_of_break : (n : ℕ) → stands_waiting (k.Break n) ≡ false
unfolding stands_waiting
waits_of_break n = refl

pub waits_of_continue : (n : ℕ) → stands_waiting (k.Continue n) ≡ false
unfolding stands_waiting
waits_of_continue n = refl

pub waits_of_loop : (kind : _) (b : KBlock) → stands_waiting (k.Loop kind b) ≡ waiting_block b
unfolding stands_waiting
waits_of_loop kind b = refl

waits_KNode_row : {n : _} (r : Row_of-KNode n) → waiting_nodes r ≡ list_any node_waits (items-the_row-KNode n r)
unfolding stands_waiting
waits_KNode_row end_of-KNode = refl
waits_KNode_row (more_of-KNode n p s rest) = ap (λ k. stands_waiting s || k) (waits_KNode_row rest)

waits_KArm_row : {n : _} (r : Row_of-KArm n) → waiting_arms r ≡ list_any waiting_arm (items-the_row-KArm n r)
unfolding stands_waiting
waits_KArm_row end_of-KArm = refl
waits_KArm_row (more_of-KArm b rest) = ap (λ k. waiting_arm b || k) (waits_KArm_row rest)

waits_KBlock_row : {n : _} (r : Row_of-KBlock n) → waiting_blocks r ≡ list_any waiting_block (items-the_row-KBlock n r)
unfolding stands_waiting
waits_KBlock_row end_of-KBlock = refl
waits_KBlock_row (more_of-KBlock b rest) = ap (λ k. waiting_block b || k) (waits_KBlock_row rest)

pub waits_of_block : (b : KBlock) → waiting_block b ≡ (has_pool_decl (out-KBlock b).decls || list_any node_waits (out-KBlock b).list)
unfolding stands_waiting out-KBlock Carrier.out
waits_of_block (KBlock' n ds x list) = ap (λ k. has_pool_decl ds || k) (waits_KNode_row list ∙ sym (ap (list_any node_waits) (items_shown-the_row-KNode-2 x list)))

pub waits_of_arm : (a : KArm) → waiting_arm a ≡ waiting_block (out-KArm a).body
unfolding stands_waiting out-KArm Carrier.out
waits_of_arm (KArm' c b) = refl

pub waits_of_if : (arms : List KArm) (last : KBlock) → stands_waiting (k.If arms last) ≡ (list_any waiting_arm arms || waiting_block last)
unfolding stands_waiting
waits_of_if arms last = ap (λ k. k || waiting_block last) (waits_KArm_row (hidden-the_row-KArm-0 arms) ∙ ap (list_any waiting_arm) (items_hidden-the_row-KArm-0 arms))

pub waits_of_par : (kind : _) (slot : ℕ) (bs : List KBlock) → stands_waiting (k.Par kind slot bs) ≡ list_any waiting_block bs
unfolding stands_waiting
waits_of_par kind slot bs = ap (λ k. k) (waits_KBlock_row (hidden-the_row-KBlock-1 bs) ∙ ap (list_any waiting_block) (items_hidden-the_row-KBlock-1 bs))

pub ruleset waits = (waits_of_nothing, waits_of_assign, waits_of_out, waits_of_emit, waits_of_await_in, waits_of_await_time, waits_of_await_event, waits_of_forever, waits_of_await_code, waits_of_spawn, waits_of_kill, waits_of_unset, waits_of_async, waits_of_finalize, waits_of_do, waits_of_escape, waits_of_break, waits_of_continue, waits_of_loop, waits_of_block, waits_of_arm, waits_of_if, waits_of_par)
