-- One level of the question whether a paced loop may hold a statement, and of the event that paces one.
use Rattle.std.proofs.Common.{◌≡◌, refl, sym, ap, ◌∙◌, ℕ, true, false, not, ◌&&◌, if◌then◌else◌, List, None}
use Rattle.std.specs.List.{list_all}
use Rattle.ceu_tree.specs.declared.kernel.KExp.{KExp}
use Rattle.ceu_tree.specs.declared.kernel.KArm.{KArm, KArm', out-KArm}
use Rattle.ceu_tree.specs.declared.kernel.KBlock.{KBlock, KBlock', out-KBlock, Row_of-KNode, end_of-KNode, more_of-KNode, items-the_row-KNode, items_shown-the_row-KNode-2}
use Rattle.ceu_tree.specs.declared.kernel.KStmt as k
use Rattle.ceu_tree.specs.declared.kernel.KStmt.{KStmt, out-KStmt, Row_of-KArm, end_of-KArm, more_of-KArm, items-the_row-KArm, items_hidden-the_row-KArm-0, items_hidden-the_row-KBlock-1, Row_of-KBlock, end_of-KBlock, more_of-KBlock, items-the_row-KBlock}
use Rattle.ceu_tree.specs.declared.kernel.KStmt.TheBlock.{hidden-the_row-KArm-0}
use Rattle.ceu_tree.specs.Costs.{no_bound, is_calm, calm_block, calm_arm, calm_nodes, calm_arms, calm_node, awaited_event, paced_list, paced_body, paced_nodes}
use denote.Hole.Carrier

pub calm_of_nothing : is_calm k.Nothing ≡ true
unfolding is_calm
calm_of_nothing = refl

pub calm_of_assign : (l : _) (e : KExp) → is_calm (k.Assign l e) ≡ true
unfolding is_calm
calm_of_assign l e = refl

pub calm_of_out : (n : ℕ) (e : _) → is_calm (k.Out n e) ≡ true
unfolding is_calm
calm_of_out n e = refl

pub calm_of_emit : (n : ℕ) (e : _) → is_calm (k.Emit n e) ≡ true
unfolding is_calm
calm_of_emit n e = refl

pub calm_of_await_in : (n : ℕ) (t : _) → is_calm (k.AwaitIn n t) ≡ false
unfolding is_calm
calm_of_await_in n t = refl

pub calm_of_await_time : (e : KExp) (u : _) (t : _) → is_calm (k.AwaitTime e u t) ≡ false
unfolding is_calm
calm_of_await_time e u t = refl

pub calm_of_await_event : (n : ℕ) (t : _) → is_calm (k.AwaitEvent n t) ≡ false
unfolding is_calm
calm_of_await_event n t = refl

pub calm_of_forever : is_calm k.Forever ≡ false
unfolding is_calm
calm_of_forever = refl

pub calm_of_await_code : (c : ℕ) (es : List KExp) (f : ℕ) (t : _) → is_calm (k.AwaitCode c es f t) ≡ false
unfolding is_calm
calm_of_await_code c es f t = refl

pub calm_of_spawn : (c : ℕ) (es : List KExp) (p : ℕ) (a : _) → is_calm (k.Spawn c es p a) ≡ false
unfolding is_calm
calm_of_spawn c es p a = refl

pub calm_of_kill : (n : ℕ) → is_calm (k.Kill n) ≡ true
unfolding is_calm
calm_of_kill n = refl

pub calm_of_unset : (n : ℕ) → is_calm (k.Unset n) ≡ true
unfolding is_calm
calm_of_unset n = refl

pub calm_of_async : (b : KBlock) → is_calm (k.Async b) ≡ false
unfolding is_calm
calm_of_async b = refl

pub calm_of_finalize : (b : KBlock) → is_calm (k.Finalize b) ≡ true
unfolding is_calm
calm_of_finalize b = refl

pub calm_of_do : (t : _) (b : KBlock) → is_calm (k.Do t b) ≡ calm_block b
unfolding is_calm
calm_of_do t b = refl

pub calm_of_escape : (n : ℕ) (e : _) → is_calm (k.Escape n e) ≡ true
unfolding is_calm
calm_of_escape n e = refl

pub calm_of_break : (n : ℕ) → is_calm (k.Break n) ≡ true
unfolding is_calm
calm_of_break n = refl

pub calm_of_continue : (n : ℕ) → is_calm (k.Continue n) ≡ true
unfolding is_calm
calm_of_continue n = refl

pub calm_of_loop : (kind : _) (b : KBlock) → is_calm (k.Loop kind b) ≡ not (no_bound kind) && calm_block b
unfolding is_calm
calm_of_loop kind b = refl

calm_KNode_row : {n : _} (r : Row_of-KNode n) → calm_nodes r ≡ list_all calm_node (items-the_row-KNode n r)
unfolding is_calm
calm_KNode_row end_of-KNode = refl
calm_KNode_row (more_of-KNode n p s rest) = ap (λ k. is_calm s && k) (calm_KNode_row rest)

calm_KArm_row : {n : _} (r : Row_of-KArm n) → calm_arms r ≡ list_all calm_arm (items-the_row-KArm n r)
unfolding is_calm
calm_KArm_row end_of-KArm = refl
calm_KArm_row (more_of-KArm b rest) = ap (λ k. calm_arm b && k) (calm_KArm_row rest)

pub calm_of_block : (b : KBlock) → calm_block b ≡ list_all calm_node (out-KBlock b).list
unfolding is_calm out-KBlock Carrier.out
calm_of_block (KBlock' n ds x list) = ap (λ k. k) (calm_KNode_row list ∙ sym (ap (list_all calm_node) (items_shown-the_row-KNode-2 x list)))

pub calm_of_arm : (a : KArm) → calm_arm a ≡ calm_block (out-KArm a).body
unfolding is_calm out-KArm Carrier.out
calm_of_arm (KArm' c b) = refl

pub calm_of_if : (arms : List KArm) (last : KBlock) → is_calm (k.If arms last) ≡ list_all calm_arm arms && calm_block last
unfolding is_calm
calm_of_if arms last = ap (λ k. k && calm_block last) (calm_KArm_row (hidden-the_row-KArm-0 arms) ∙ ap (list_all calm_arm) (items_hidden-the_row-KArm-0 arms))

pub calm_of_par : (kind : _) (slot : ℕ) (bs : List KBlock) → is_calm (k.Par kind slot bs) ≡ false
unfolding is_calm
calm_of_par kind slot bs = refl

paced_row : {n : _} (r : Row_of-KNode n) → paced_list r ≡ paced_nodes (items-the_row-KNode n r)
unfolding is_calm
paced_row end_of-KNode = refl
paced_row (more_of-KNode m p s rest) = ap (λ k. if k then awaited_event s else None) (calm_KNode_row rest)

pub paced_of_body : (b : KBlock) → paced_body b ≡ paced_nodes (out-KBlock b).list
unfolding is_calm out-KBlock Carrier.out
paced_of_body (KBlock' n ds x list) = paced_row list ∙ sym (ap paced_nodes (items_shown-the_row-KNode-2 x list))

pub ruleset calms = (paced_of_body, calm_of_nothing, calm_of_assign, calm_of_out, calm_of_emit, calm_of_await_in, calm_of_await_time, calm_of_await_event, calm_of_forever, calm_of_await_code, calm_of_spawn, calm_of_kill, calm_of_unset, calm_of_async, calm_of_finalize, calm_of_do, calm_of_escape, calm_of_break, calm_of_continue, calm_of_loop, calm_of_block, calm_of_arm, calm_of_if, calm_of_par)
