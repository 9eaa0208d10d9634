-- One level of what the loops that an event paces cost in a body.
use Rattle.std.proofs.Common.{◌≡◌, refl, sym, ap, ◌∙◌, ℕ, Bool, List}
use Rattle.ceu_tree.specs.declared.kernel.KExp.{KExp}
use Rattle.ceu_tree.specs.declared.kernel.KArm.{KArm, KArm', out-KArm}
use Rattle.ceu_tree.specs.declared.kernel.KBlock.{KBlock, KBlock', out-KBlock, Row_of-KNode, end_of-KNode, more_of-KNode, items-the_row-KNode, items_shown-the_row-KNode-2}
use Rattle.ceu_tree.specs.declared.kernel.KStmt as k
use Rattle.ceu_tree.specs.declared.kernel.KStmt.{KStmt, out-KStmt, Row_of-KArm, end_of-KArm, more_of-KArm, items-the_row-KArm, items_hidden-the_row-KArm-0, items_hidden-the_row-KBlock-1, Row_of-KBlock, end_of-KBlock, more_of-KBlock, items-the_row-KBlock}
use Rattle.ceu_tree.specs.declared.kernel.KStmt.TheBlock.{hidden-the_row-KArm-0, hidden-the_row-KBlock-1}
use Rattle.std.proofs.Common.{drop}
use Rattle.ceu_tree.proofs.EnterLaws.{enter_KNode_row}
use Rattle.ceu_tree.specs.Costs.{Cost, nothing, plus, sum_of, enter, enter_list, rest_cost, body_cost, loop_woken, woken, woken_block, woken_arm, woken_nodes, woken_arms, woken_blocks, woken_node}
use denote.Hole.Carrier

pub woken_of_nothing : (passing : List Bool) (events : List Cost) (entering : List Cost) (e : ℕ) → woken passing events entering e k.Nothing ≡ nothing
unfolding woken
woken_of_nothing passing events entering e = refl

pub woken_of_assign : (passing : List Bool) (events : List Cost) (entering : List Cost) (e : ℕ) (l : _) (x : KExp) → woken passing events entering e (k.Assign l x) ≡ nothing
unfolding woken
woken_of_assign passing events entering e l x = refl

pub woken_of_out : (passing : List Bool) (events : List Cost) (entering : List Cost) (e : ℕ) (n : ℕ) (x : _) → woken passing events entering e (k.Out n x) ≡ nothing
unfolding woken
woken_of_out passing events entering e n x = refl

pub woken_of_emit : (passing : List Bool) (events : List Cost) (entering : List Cost) (e : ℕ) (n : ℕ) (x : _) → woken passing events entering e (k.Emit n x) ≡ nothing
unfolding woken
woken_of_emit passing events entering e n x = refl

pub woken_of_await_in : (passing : List Bool) (events : List Cost) (entering : List Cost) (e : ℕ) (n : ℕ) (t : _) → woken passing events entering e (k.AwaitIn n t) ≡ nothing
unfolding woken
woken_of_await_in passing events entering e n t = refl

pub woken_of_await_time : (passing : List Bool) (events : List Cost) (entering : List Cost) (e : ℕ) (x : KExp) (u : _) (t : _) → woken passing events entering e (k.AwaitTime x u t) ≡ nothing
unfolding woken
woken_of_await_time passing events entering e x u t = refl

pub woken_of_await_event : (passing : List Bool) (events : List Cost) (entering : List Cost) (e : ℕ) (n : ℕ) (t : _) → woken passing events entering e (k.AwaitEvent n t) ≡ nothing
unfolding woken
woken_of_await_event passing events entering e n t = refl

pub woken_of_forever : (passing : List Bool) (events : List Cost) (entering : List Cost) (e : ℕ) → woken passing events entering e k.Forever ≡ nothing
unfolding woken
woken_of_forever passing events entering e = refl

pub woken_of_await_code : (passing : List Bool) (events : List Cost) (entering : List Cost) (e : ℕ) (c : ℕ) (es : List KExp) (f : ℕ) (t : _) → woken passing events entering e (k.AwaitCode c es f t) ≡ nothing
unfolding woken
woken_of_await_code passing events entering e c es f t = refl

pub woken_of_spawn : (passing : List Bool) (events : List Cost) (entering : List Cost) (e : ℕ) (c : ℕ) (es : List KExp) (p : ℕ) (a : _) → woken passing events entering e (k.Spawn c es p a) ≡ nothing
unfolding woken
woken_of_spawn passing events entering e c es p a = refl

pub woken_of_kill : (passing : List Bool) (events : List Cost) (entering : List Cost) (e : ℕ) (n : ℕ) → woken passing events entering e (k.Kill n) ≡ nothing
unfolding woken
woken_of_kill passing events entering e n = refl

pub woken_of_unset : (passing : List Bool) (events : List Cost) (entering : List Cost) (e : ℕ) (n : ℕ) → woken passing events entering e (k.Unset n) ≡ nothing
unfolding woken
woken_of_unset passing events entering e n = refl

pub woken_of_async : (passing : List Bool) (events : List Cost) (entering : List Cost) (e : ℕ) (b : KBlock) → woken passing events entering e (k.Async b) ≡ nothing
unfolding woken
woken_of_async passing events entering e b = refl

pub woken_of_finalize : (passing : List Bool) (events : List Cost) (entering : List Cost) (e : ℕ) (b : KBlock) → woken passing events entering e (k.Finalize b) ≡ nothing
unfolding woken
woken_of_finalize passing events entering e b = refl

pub woken_of_do : (passing : List Bool) (events : List Cost) (entering : List Cost) (e : ℕ) (t : _) (b : KBlock) → woken passing events entering e (k.Do t b) ≡ woken_block passing events entering e b
unfolding woken
woken_of_do passing events entering e t b = refl

pub woken_of_escape : (passing : List Bool) (events : List Cost) (entering : List Cost) (e : ℕ) (n : ℕ) (x : _) → woken passing events entering e (k.Escape n x) ≡ nothing
unfolding woken
woken_of_escape passing events entering e n x = refl

pub woken_of_break : (passing : List Bool) (events : List Cost) (entering : List Cost) (e : ℕ) (n : ℕ) → woken passing events entering e (k.Break n) ≡ nothing
unfolding woken
woken_of_break passing events entering e n = refl

pub woken_of_continue : (passing : List Bool) (events : List Cost) (entering : List Cost) (e : ℕ) (n : ℕ) → woken passing events entering e (k.Continue n) ≡ nothing
unfolding woken
woken_of_continue passing events entering e n = refl

pub woken_of_loop : (passing : List Bool) (events : List Cost) (entering : List Cost) (e : ℕ) (kind : _) (b : KBlock) → woken passing events entering e (k.Loop kind b) ≡ plus (loop_woken passing events entering e kind b) (woken_block passing events entering e b)
unfolding woken
woken_of_loop passing events entering e kind b = refl

woken_KNode_row : (passing : List Bool) (events : List Cost) (entering : List Cost) (e : ℕ) {n : _} (r : Row_of-KNode n) → woken_nodes passing events entering e r ≡ sum_of (woken_node passing events entering e) (items-the_row-KNode n r)
unfolding woken
woken_KNode_row passing events entering e end_of-KNode = refl
woken_KNode_row passing events entering e (more_of-KNode n p s rest) = ap (λ k. plus (woken passing events entering e s) k) (woken_KNode_row passing events entering e rest)

woken_KArm_row : (passing : List Bool) (events : List Cost) (entering : List Cost) (e : ℕ) {n : _} (r : Row_of-KArm n) → woken_arms passing events entering e r ≡ sum_of (woken_arm passing events entering e) (items-the_row-KArm n r)
unfolding woken
woken_KArm_row passing events entering e end_of-KArm = refl
woken_KArm_row passing events entering e (more_of-KArm b rest) = ap (λ k. plus (woken_arm passing events entering e b) k) (woken_KArm_row passing events entering e rest)

woken_KBlock_row : (passing : List Bool) (events : List Cost) (entering : List Cost) (e : ℕ) {n : _} (r : Row_of-KBlock n) → woken_blocks passing events entering e r ≡ sum_of (woken_block passing events entering e) (items-the_row-KBlock n r)
unfolding woken
woken_KBlock_row passing events entering e end_of-KBlock = refl
woken_KBlock_row passing events entering e (more_of-KBlock b rest) = ap (λ k. plus (woken_block passing events entering e b) k) (woken_KBlock_row passing events entering e rest)

pub woken_of_block : (passing : List Bool) (events : List Cost) (entering : List Cost) (e : ℕ) (b : KBlock) → woken_block passing events entering e b ≡ sum_of (woken_node passing events entering e) (out-KBlock b).list
unfolding woken out-KBlock Carrier.out
woken_of_block passing events entering e (KBlock' n ds x list) = ap (λ k. k) (woken_KNode_row passing events entering e list ∙ sym (ap (sum_of (woken_node passing events entering e)) (items_shown-the_row-KNode-2 x list)))

pub woken_of_arm : (passing : List Bool) (events : List Cost) (entering : List Cost) (e : ℕ) (a : KArm) → woken_arm passing events entering e a ≡ woken_block passing events entering e (out-KArm a).body
unfolding woken out-KArm Carrier.out
woken_of_arm passing events entering e (KArm' c b) = refl

pub woken_of_if : (passing : List Bool) (events : List Cost) (entering : List Cost) (e : ℕ) (arms : List KArm) (last : KBlock) → woken passing events entering e (k.If arms last) ≡ plus (sum_of (woken_arm passing events entering e) arms) (woken_block passing events entering e last)
unfolding woken
woken_of_if passing events entering e arms last = ap (λ k. plus k (woken_block passing events entering e last)) (woken_KArm_row passing events entering e (hidden-the_row-KArm-0 arms) ∙ ap (sum_of (woken_arm passing events entering e)) (items_hidden-the_row-KArm-0 arms))

pub woken_of_par : (passing : List Bool) (events : List Cost) (entering : List Cost) (e : ℕ) (kind : _) (slot : ℕ) (bs : List KBlock) → woken passing events entering e (k.Par kind slot bs) ≡ sum_of (woken_block passing events entering e) bs
unfolding woken
woken_of_par passing events entering e kind slot bs = ap (λ k. k) (woken_KBlock_row passing events entering e (hidden-the_row-KBlock-1 bs) ∙ ap (sum_of (woken_block passing events entering e)) (items_hidden-the_row-KBlock-1 bs))

rest_row : (passing : List Bool) (events : List Cost) (entering : List Cost) {n : _} (r : Row_of-KNode n) → rest_cost passing events entering r ≡ enter_list passing events entering (drop 1 (items-the_row-KNode n r))
unfolding woken enter
rest_row passing events entering end_of-KNode = refl
rest_row passing events entering (more_of-KNode m p s rest) = enter_KNode_row passing events entering rest

pub body_cost_of : (passing : List Bool) (events : List Cost) (entering : List Cost) (b : KBlock) → body_cost passing events entering b ≡ enter_list passing events entering (drop 1 (out-KBlock b).list)
unfolding woken enter out-KBlock Carrier.out
body_cost_of passing events entering (KBlock' n ds x list) =
    rest_row passing events entering list ∙ sym (ap (λ k. enter_list passing events entering (drop 1 k)) (items_shown-the_row-KNode-2 x list))

pub ruleset wokens = (body_cost_of, woken_of_nothing, woken_of_assign, woken_of_out, woken_of_emit, woken_of_await_in, woken_of_await_time, woken_of_await_event, woken_of_forever, woken_of_await_code, woken_of_spawn, woken_of_kill, woken_of_unset, woken_of_async, woken_of_finalize, woken_of_do, woken_of_escape, woken_of_break, woken_of_continue, woken_of_loop, woken_of_block, woken_of_arm, woken_of_if, woken_of_par)
