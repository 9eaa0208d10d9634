-- One level of the cost of a statement that stood waiting.
use Rattle.std.proofs.Common.{◌≡◌, refl, sym, ap, ◌∙◌, ℕ, Bool, if◌then◌else◌, List}
use Rattle.ceu_tree.specs.declared.kernel.KExp.{KExp}
use Rattle.ceu_tree.specs.declared.kernel.KArm.{KArm, KArm', out-KArm}
use Rattle.ceu_tree.specs.declared.kernel.KBlock.{KBlock, KBlock', out-KBlock, Row_of-KNode, end_of-KNode, more_of-KNode, items-the_row-KNode, items_shown-the_row-KNode-2}
use Rattle.ceu_tree.specs.declared.kernel.KStmt as k
use Rattle.ceu_tree.specs.declared.kernel.KStmt.{KStmt, out-KStmt, Row_of-KArm, end_of-KArm, more_of-KArm, items-the_row-KArm, items_hidden-the_row-KArm-0, items_hidden-the_row-KBlock-1, Row_of-KBlock, end_of-KBlock, more_of-KBlock, items-the_row-KBlock}
use Rattle.ceu_tree.specs.declared.kernel.KStmt.TheBlock.{hidden-the_row-KArm-0, hidden-the_row-KBlock-1}
use Rattle.ceu_tree.specs.Costs.{Cost, nothing, cost, plus, most, sum_of, most_of, cost_at, loop_stay, stands_waiting, enter_block, enter_list, pools_stay, stay, stay_block, stay_arm, stay_nodes, stay_arms, stay_blocks, stay_list}
use Rattle.ceu_tree.proofs.EnterLaws.{enter_KNode_row}
use denote.Hole.Carrier

pub stay_of_nothing : (passing : List Bool) (events : List Cost) (entering : List Cost) (staying : List Cost) (node : ℕ) → stay passing events entering staying node k.Nothing ≡ nothing
unfolding stay
stay_of_nothing passing events entering staying node = refl

pub stay_of_assign : (passing : List Bool) (events : List Cost) (entering : List Cost) (staying : List Cost) (node : ℕ) (l : _) (e : KExp) → stay passing events entering staying node (k.Assign l e) ≡ nothing
unfolding stay
stay_of_assign passing events entering staying node l e = refl

pub stay_of_out : (passing : List Bool) (events : List Cost) (entering : List Cost) (staying : List Cost) (node : ℕ) (n : ℕ) (e : _) → stay passing events entering staying node (k.Out n e) ≡ nothing
unfolding stay
stay_of_out passing events entering staying node n e = refl

pub stay_of_emit : (passing : List Bool) (events : List Cost) (entering : List Cost) (staying : List Cost) (node : ℕ) (n : ℕ) (e : _) → stay passing events entering staying node (k.Emit n e) ≡ nothing
unfolding stay
stay_of_emit passing events entering staying node n e = refl

pub stay_of_await_in : (passing : List Bool) (events : List Cost) (entering : List Cost) (staying : List Cost) (node : ℕ) (n : ℕ) (t : _) → stay passing events entering staying node (k.AwaitIn n t) ≡ cost 1 0
unfolding stay
stay_of_await_in passing events entering staying node n t = refl

pub stay_of_await_time : (passing : List Bool) (events : List Cost) (entering : List Cost) (staying : List Cost) (node : ℕ) (e : KExp) (u : _) (t : _) → stay passing events entering staying node (k.AwaitTime e u t) ≡ cost 1 0
unfolding stay
stay_of_await_time passing events entering staying node e u t = refl

pub stay_of_await_event : (passing : List Bool) (events : List Cost) (entering : List Cost) (staying : List Cost) (node : ℕ) (n : ℕ) (t : _) → stay passing events entering staying node (k.AwaitEvent n t) ≡ cost 1 0
unfolding stay
stay_of_await_event passing events entering staying node n t = refl

pub stay_of_forever : (passing : List Bool) (events : List Cost) (entering : List Cost) (staying : List Cost) (node : ℕ) → stay passing events entering staying node k.Forever ≡ nothing
unfolding stay
stay_of_forever passing events entering staying node = refl

pub stay_of_await_code : (passing : List Bool) (events : List Cost) (entering : List Cost) (staying : List Cost) (node : ℕ) (c : ℕ) (es : List KExp) (f : ℕ) (t : _) → stay passing events entering staying node (k.AwaitCode c es f t) ≡ cost_at c staying
unfolding stay
stay_of_await_code passing events entering staying node c es f t = refl

pub stay_of_spawn : (passing : List Bool) (events : List Cost) (entering : List Cost) (staying : List Cost) (node : ℕ) (c : ℕ) (es : List KExp) (p : ℕ) (a : _) → stay passing events entering staying node (k.Spawn c es p a) ≡ nothing
unfolding stay
stay_of_spawn passing events entering staying node c es p a = refl

pub stay_of_kill : (passing : List Bool) (events : List Cost) (entering : List Cost) (staying : List Cost) (node : ℕ) (n : ℕ) → stay passing events entering staying node (k.Kill n) ≡ nothing
unfolding stay
stay_of_kill passing events entering staying node n = refl

pub stay_of_unset : (passing : List Bool) (events : List Cost) (entering : List Cost) (staying : List Cost) (node : ℕ) (n : ℕ) → stay passing events entering staying node (k.Unset n) ≡ nothing
unfolding stay
stay_of_unset passing events entering staying node n = refl

pub stay_of_async : (passing : List Bool) (events : List Cost) (entering : List Cost) (staying : List Cost) (node : ℕ) (b : KBlock) → stay passing events entering staying node (k.Async b) ≡ cost 1 0
unfolding stay
stay_of_async passing events entering staying node b = refl

pub stay_of_finalize : (passing : List Bool) (events : List Cost) (entering : List Cost) (staying : List Cost) (node : ℕ) (b : KBlock) → stay passing events entering staying node (k.Finalize b) ≡ nothing
unfolding stay
stay_of_finalize passing events entering staying node b = refl

pub stay_of_do : (passing : List Bool) (events : List Cost) (entering : List Cost) (staying : List Cost) (node : ℕ) (t : _) (b : KBlock) → stay passing events entering staying node (k.Do t b) ≡ stay_block passing events entering staying b
unfolding stay
stay_of_do passing events entering staying node t b = refl

pub stay_of_escape : (passing : List Bool) (events : List Cost) (entering : List Cost) (staying : List Cost) (node : ℕ) (n : ℕ) (e : _) → stay passing events entering staying node (k.Escape n e) ≡ nothing
unfolding stay
stay_of_escape passing events entering staying node n e = refl

pub stay_of_break : (passing : List Bool) (events : List Cost) (entering : List Cost) (staying : List Cost) (node : ℕ) (n : ℕ) → stay passing events entering staying node (k.Break n) ≡ nothing
unfolding stay
stay_of_break passing events entering staying node n = refl

pub stay_of_continue : (passing : List Bool) (events : List Cost) (entering : List Cost) (staying : List Cost) (node : ℕ) (n : ℕ) → stay passing events entering staying node (k.Continue n) ≡ nothing
unfolding stay
stay_of_continue passing events entering staying node n = refl

pub stay_of_loop : (passing : List Bool) (events : List Cost) (entering : List Cost) (staying : List Cost) (node : ℕ) (kind : _) (b : KBlock) → stay passing events entering staying node (k.Loop kind b) ≡ loop_stay passing node kind b (stay_block passing events entering staying b) (enter_block passing events entering b)
unfolding stay
stay_of_loop passing events entering staying node kind b = refl

stay_KNode_row : (passing : List Bool) (events : List Cost) (entering : List Cost) (staying : List Cost) {n : _} (r : Row_of-KNode n) → stay_nodes passing events entering staying r ≡ stay_list passing events entering staying (items-the_row-KNode n r)
unfolding stay
stay_KNode_row passing events entering staying end_of-KNode = refl
stay_KNode_row passing events entering staying (more_of-KNode n p s rest) =
    ap (λ k. if stands_waiting s then most (plus (stay passing events entering staying n s) k) (stay_nodes passing events entering staying rest) else stay_nodes passing events entering staying rest) (enter_KNode_row passing events entering rest) ∙
    ap (λ k. if stands_waiting s then most (plus (stay passing events entering staying n s) (enter_list passing events entering (items-the_row-KNode _ rest))) k else k) (stay_KNode_row passing events entering staying rest)

stay_KArm_row : (passing : List Bool) (events : List Cost) (entering : List Cost) (staying : List Cost) {n : _} (r : Row_of-KArm n) → stay_arms passing events entering staying r ≡ most_of (stay_arm passing events entering staying) (items-the_row-KArm n r)
unfolding stay
stay_KArm_row passing events entering staying end_of-KArm = refl
stay_KArm_row passing events entering staying (more_of-KArm b rest) = ap (λ k. most (stay_arm passing events entering staying b) k) (stay_KArm_row passing events entering staying rest)

stay_KBlock_row : (passing : List Bool) (events : List Cost) (entering : List Cost) (staying : List Cost) {n : _} (r : Row_of-KBlock n) → stay_blocks passing events entering staying r ≡ sum_of (stay_block passing events entering staying) (items-the_row-KBlock n r)
unfolding stay
stay_KBlock_row passing events entering staying end_of-KBlock = refl
stay_KBlock_row passing events entering staying (more_of-KBlock b rest) = ap (λ k. plus (stay_block passing events entering staying b) k) (stay_KBlock_row passing events entering staying rest)

pub stay_of_block : (passing : List Bool) (events : List Cost) (entering : List Cost) (staying : List Cost) (b : KBlock) → stay_block passing events entering staying b ≡ plus (pools_stay passing events entering staying (out-KBlock b).decls) (stay_list passing events entering staying (out-KBlock b).list)
unfolding stay out-KBlock Carrier.out
stay_of_block passing events entering staying (KBlock' n ds x list) = ap (λ k. plus (pools_stay passing events entering staying ds) k) (stay_KNode_row passing events entering staying list ∙ sym (ap (stay_list passing events entering staying) (items_shown-the_row-KNode-2 x list)))

pub stay_of_arm : (passing : List Bool) (events : List Cost) (entering : List Cost) (staying : List Cost) (a : KArm) → stay_arm passing events entering staying a ≡ stay_block passing events entering staying (out-KArm a).body
unfolding stay out-KArm Carrier.out
stay_of_arm passing events entering staying (KArm' c b) = refl

pub stay_of_if : (passing : List Bool) (events : List Cost) (entering : List Cost) (staying : List Cost) (node : ℕ) (arms : List KArm) (last : KBlock) → stay passing events entering staying node (k.If arms last) ≡ most (most_of (stay_arm passing events entering staying) arms) (stay_block passing events entering staying last)
unfolding stay
stay_of_if passing events entering staying node arms last = ap (λ k. most k (stay_block passing events entering staying last)) (stay_KArm_row passing events entering staying (hidden-the_row-KArm-0 arms) ∙ ap (most_of (stay_arm passing events entering staying)) (items_hidden-the_row-KArm-0 arms))

pub stay_of_par : (passing : List Bool) (events : List Cost) (entering : List Cost) (staying : List Cost) (node : ℕ) (kind : _) (slot : ℕ) (bs : List KBlock) → stay passing events entering staying node (k.Par kind slot bs) ≡ sum_of (stay_block passing events entering staying) bs
unfolding stay
stay_of_par passing events entering staying node kind slot bs = ap (λ k. k) (stay_KBlock_row passing events entering staying (hidden-the_row-KBlock-1 bs) ∙ ap (sum_of (stay_block passing events entering staying)) (items_hidden-the_row-KBlock-1 bs))

pub ruleset stays = (stay_of_nothing, stay_of_assign, stay_of_out, stay_of_emit, stay_of_await_in, stay_of_await_time, stay_of_await_event, stay_of_forever, stay_of_await_code, stay_of_spawn, stay_of_kill, stay_of_unset, stay_of_async, stay_of_finalize, stay_of_do, stay_of_escape, stay_of_break, stay_of_continue, stay_of_loop, stay_of_block, stay_of_arm, stay_of_if, stay_of_par)
