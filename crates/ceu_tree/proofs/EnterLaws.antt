-- One level of the cost of a statement from its start.
use Rattle.std.proofs.Common.{◌≡◌, refl, sym, ap, ◌∙◌, ℕ, Bool, if◌then◌else◌, List}
use Rattle.ceu_tree.specs.declared.kernel.KExp.{KExp}
use Rattle.ceu_tree.specs.declared.kernel.KArm.{KArm, KArm', out-KArm}
use Rattle.ceu_tree.specs.declared.kernel.KBlock.{KBlock, KBlock', out-KBlock, Row_of-KNode, end_of-KNode, more_of-KNode, items-the_row-KNode, items_shown-the_row-KNode-2}
use Rattle.ceu_tree.specs.declared.kernel.KStmt as k
use Rattle.ceu_tree.specs.declared.kernel.KStmt.{KStmt, out-KStmt, Row_of-KArm, end_of-KArm, more_of-KArm, items-the_row-KArm, items_hidden-the_row-KArm-0, items_hidden-the_row-KBlock-1, Row_of-KBlock, end_of-KBlock, more_of-KBlock, items-the_row-KBlock}
use Rattle.ceu_tree.specs.declared.kernel.KStmt.TheBlock.{hidden-the_row-KArm-0, hidden-the_row-KBlock-1}
use Rattle.ceu_tree.specs.Paths.{has_end, quick}
use Rattle.ceu_tree.specs.Costs.{Cost, nothing, cost, plus, most, sum_of, most_of, cost_at, loop_enter, without_one, enter, enter_block, enter_arm, enter_nodes, enter_arms, enter_blocks, enter_list, enter_branch}
use denote.Hole.Carrier

pub enter_of_nothing : (passing : List Bool) (events : List Cost) (entering : List Cost) (node : ℕ) → enter passing events entering node k.Nothing ≡ nothing
unfolding enter
enter_of_nothing passing events entering node = refl

pub enter_of_assign : (passing : List Bool) (events : List Cost) (entering : List Cost) (node : ℕ) (l : _) (e : KExp) → enter passing events entering node (k.Assign l e) ≡ nothing
unfolding enter
enter_of_assign passing events entering node l e = refl

pub enter_of_out : (passing : List Bool) (events : List Cost) (entering : List Cost) (node : ℕ) (n : ℕ) (e : _) → enter passing events entering node (k.Out n e) ≡ nothing
unfolding enter
enter_of_out passing events entering node n e = refl

pub enter_of_emit : (passing : List Bool) (events : List Cost) (entering : List Cost) (node : ℕ) (n : ℕ) (e : _) → enter passing events entering node (k.Emit n e) ≡ cost_at n events
unfolding enter
enter_of_emit passing events entering node n e = refl

pub enter_of_await_in : (passing : List Bool) (events : List Cost) (entering : List Cost) (node : ℕ) (n : ℕ) (t : _) → enter passing events entering node (k.AwaitIn n t) ≡ nothing
unfolding enter
enter_of_await_in passing events entering node n t = refl

pub enter_of_await_time : (passing : List Bool) (events : List Cost) (entering : List Cost) (node : ℕ) (e : KExp) (u : _) (t : _) → enter passing events entering node (k.AwaitTime e u t) ≡ nothing
unfolding enter
enter_of_await_time passing events entering node e u t = refl

pub enter_of_await_event : (passing : List Bool) (events : List Cost) (entering : List Cost) (node : ℕ) (n : ℕ) (t : _) → enter passing events entering node (k.AwaitEvent n t) ≡ cost 1 0
unfolding enter
enter_of_await_event passing events entering node n t = refl

pub enter_of_forever : (passing : List Bool) (events : List Cost) (entering : List Cost) (node : ℕ) → enter passing events entering node k.Forever ≡ nothing
unfolding enter
enter_of_forever passing events entering node = refl

pub enter_of_await_code : (passing : List Bool) (events : List Cost) (entering : List Cost) (node : ℕ) (c : ℕ) (es : List KExp) (f : ℕ) (t : _) → enter passing events entering node (k.AwaitCode c es f t) ≡ cost_at c entering
unfolding enter
enter_of_await_code passing events entering node c es f t = refl

pub enter_of_spawn : (passing : List Bool) (events : List Cost) (entering : List Cost) (node : ℕ) (c : ℕ) (es : List KExp) (p : ℕ) (a : _) → enter passing events entering node (k.Spawn c es p a) ≡ plus (cost 2 1) (cost_at c entering)
unfolding enter
enter_of_spawn passing events entering node c es p a = refl

pub enter_of_kill : (passing : List Bool) (events : List Cost) (entering : List Cost) (node : ℕ) (n : ℕ) → enter passing events entering node (k.Kill n) ≡ nothing
unfolding enter
enter_of_kill passing events entering node n = refl

pub enter_of_unset : (passing : List Bool) (events : List Cost) (entering : List Cost) (node : ℕ) (n : ℕ) → enter passing events entering node (k.Unset n) ≡ nothing
unfolding enter
enter_of_unset passing events entering node n = refl

pub enter_of_async : (passing : List Bool) (events : List Cost) (entering : List Cost) (node : ℕ) (b : KBlock) → enter passing events entering node (k.Async b) ≡ nothing
unfolding enter
enter_of_async passing events entering node b = refl

pub enter_of_finalize : (passing : List Bool) (events : List Cost) (entering : List Cost) (node : ℕ) (b : KBlock) → enter passing events entering node (k.Finalize b) ≡ nothing
unfolding enter
enter_of_finalize passing events entering node b = refl

pub enter_of_do : (passing : List Bool) (events : List Cost) (entering : List Cost) (node : ℕ) (t : _) (b : KBlock) → enter passing events entering node (k.Do t b) ≡ enter_block passing events entering b
unfolding enter
enter_of_do passing events entering node t b = refl

pub enter_of_escape : (passing : List Bool) (events : List Cost) (entering : List Cost) (node : ℕ) (n : ℕ) (e : _) → enter passing events entering node (k.Escape n e) ≡ nothing
unfolding enter
enter_of_escape passing events entering node n e = refl

pub enter_of_break : (passing : List Bool) (events : List Cost) (entering : List Cost) (node : ℕ) (n : ℕ) → enter passing events entering node (k.Break n) ≡ nothing
unfolding enter
enter_of_break passing events entering node n = refl

pub enter_of_continue : (passing : List Bool) (events : List Cost) (entering : List Cost) (node : ℕ) (n : ℕ) → enter passing events entering node (k.Continue n) ≡ nothing
unfolding enter
enter_of_continue passing events entering node n = refl

pub enter_of_loop : (passing : List Bool) (events : List Cost) (entering : List Cost) (node : ℕ) (kind : _) (b : KBlock) → enter passing events entering node (k.Loop kind b) ≡ loop_enter passing node kind b (enter_block passing events entering b)
unfolding enter
enter_of_loop passing events entering node kind b = refl

pub enter_KNode_row : (passing : List Bool) (events : List Cost) (entering : List Cost) {n : _} (r : Row_of-KNode n) → enter_nodes passing events entering r ≡ enter_list passing events entering (items-the_row-KNode n r)
unfolding enter
enter_KNode_row passing events entering end_of-KNode = refl
enter_KNode_row passing events entering (more_of-KNode n p s rest) = ap (λ k. (if has_end (quick passing n s) then plus (enter passing events entering n s) k else enter passing events entering n s)) (enter_KNode_row passing events entering rest)

enter_KArm_row : (passing : List Bool) (events : List Cost) (entering : List Cost) {n : _} (r : Row_of-KArm n) → enter_arms passing events entering r ≡ most_of (enter_arm passing events entering) (items-the_row-KArm n r)
unfolding enter
enter_KArm_row passing events entering end_of-KArm = refl
enter_KArm_row passing events entering (more_of-KArm b rest) = ap (λ k. most (enter_arm passing events entering b) k) (enter_KArm_row passing events entering rest)

enter_KBlock_row : (passing : List Bool) (events : List Cost) (entering : List Cost) {n : _} (r : Row_of-KBlock n) → enter_blocks passing events entering r ≡ sum_of (enter_branch passing events entering) (items-the_row-KBlock n r)
unfolding enter
enter_KBlock_row passing events entering end_of-KBlock = refl
enter_KBlock_row passing events entering (more_of-KBlock b rest) = ap (λ k. plus (plus (cost 1 0) (enter_block passing events entering b)) k) (enter_KBlock_row passing events entering rest)

pub enter_of_block : (passing : List Bool) (events : List Cost) (entering : List Cost) (b : KBlock) → enter_block passing events entering b ≡ enter_list passing events entering (out-KBlock b).list
unfolding enter out-KBlock Carrier.out
enter_of_block passing events entering (KBlock' n ds x list) = ap (λ k. k) (enter_KNode_row passing events entering list ∙ sym (ap (enter_list passing events entering) (items_shown-the_row-KNode-2 x list)))

pub enter_of_arm : (passing : List Bool) (events : List Cost) (entering : List Cost) (a : KArm) → enter_arm passing events entering a ≡ enter_block passing events entering (out-KArm a).body
unfolding enter out-KArm Carrier.out
enter_of_arm passing events entering (KArm' c b) = refl

pub enter_of_if : (passing : List Bool) (events : List Cost) (entering : List Cost) (node : ℕ) (arms : List KArm) (last : KBlock) → enter passing events entering node (k.If arms last) ≡ most (most_of (enter_arm passing events entering) arms) (enter_block passing events entering last)
unfolding enter
enter_of_if passing events entering node arms last = ap (λ k. most k (enter_block passing events entering last)) (enter_KArm_row passing events entering (hidden-the_row-KArm-0 arms) ∙ ap (most_of (enter_arm passing events entering)) (items_hidden-the_row-KArm-0 arms))

pub enter_of_par : (passing : List Bool) (events : List Cost) (entering : List Cost) (node : ℕ) (kind : _) (slot : ℕ) (bs : List KBlock) → enter passing events entering node (k.Par kind slot bs) ≡ without_one (sum_of (enter_branch passing events entering) bs)
unfolding enter
enter_of_par passing events entering node kind slot bs = ap (λ k. without_one k) (enter_KBlock_row passing events entering (hidden-the_row-KBlock-1 bs) ∙ ap (sum_of (enter_branch passing events entering)) (items_hidden-the_row-KBlock-1 bs))

pub ruleset enters = (enter_of_nothing, enter_of_assign, enter_of_out, enter_of_emit, enter_of_await_in, enter_of_await_time, enter_of_await_event, enter_of_forever, enter_of_await_code, enter_of_spawn, enter_of_kill, enter_of_unset, enter_of_async, enter_of_finalize, enter_of_do, enter_of_escape, enter_of_break, enter_of_continue, enter_of_loop, enter_of_block, enter_of_arm, enter_of_if, enter_of_par)
