-- One level of the weight.
use Rattle.std.proofs.Common.{◌≡◌, refl, sym, ap, ◌∙◌, ℕ, ◌+◌, ◌*◌, List, length}
use Rattle.ceu_tree.specs.declared.kernel.KExp.{KExp}
use Rattle.ceu_tree.specs.declared.kernel.KArm.{KArm, KArm', out-KArm}
use Rattle.ceu_tree.specs.declared.kernel.KBlock.{KBlock, KBlock', out-KBlock, Row_of-KNode, end_of-KNode, more_of-KNode, items-the_row-KNode, items_shown-the_row-KNode-2}
use Rattle.ceu_tree.specs.declared.kernel.KStmt as k
use Rattle.ceu_tree.specs.declared.kernel.KStmt.{KStmt, out-KStmt, Row_of-KArm, end_of-KArm, more_of-KArm, items-the_row-KArm, items_hidden-the_row-KArm-0, items_hidden-the_row-KBlock-1, Row_of-KBlock, end_of-KBlock, more_of-KBlock, items-the_row-KBlock}
use Rattle.ceu_tree.specs.declared.kernel.KStmt.TheBlock.{hidden-the_row-KArm-0, hidden-the_row-KBlock-1}
use Rattle.ceu_tree.specs.Greatest.{total}
use Rattle.ceu_base.specs.declared.kinds.Op1.{Op1}
use Rattle.ceu_base.specs.declared.kinds.Op2.{Op2}
use Rattle.ceu_tree.specs.declared.kernel.KExpNode as exp
use Rattle.ceu_tree.specs.declared.kernel.KExpNode.TheBlock.{hidden-the_row-KExp-0}
use Rattle.ceu_tree.specs.Weight.{exp_weight, exp_count, node_count, weight_if, loop_weight, stmt_weight, block_weight, arm_weight, nodes_weight, arms_weight, blocks_weight, node_weight, branch_weight}
use denote.Hole.Carrier

pub weight_of_nothing : stmt_weight k.Nothing ≡ 0
unfolding stmt_weight
weight_of_nothing = refl

pub weight_of_assign : (l : _) (e : KExp) → stmt_weight (k.Assign l e) ≡ exp_weight e
unfolding stmt_weight
weight_of_assign l e = refl

pub weight_of_out : (n : ℕ) (e : _) → stmt_weight (k.Out n e) ≡ weight_if e
unfolding stmt_weight
weight_of_out n e = refl

pub weight_of_emit : (n : ℕ) (e : _) → stmt_weight (k.Emit n e) ≡ weight_if e
unfolding stmt_weight
weight_of_emit n e = refl

pub weight_of_await_in : (n : ℕ) (t : _) → stmt_weight (k.AwaitIn n t) ≡ 0
unfolding stmt_weight
weight_of_await_in n t = refl

pub weight_of_await_time : (e : KExp) (u : _) (t : _) → stmt_weight (k.AwaitTime e u t) ≡ exp_weight e
unfolding stmt_weight
weight_of_await_time e u t = refl

pub weight_of_await_event : (n : ℕ) (t : _) → stmt_weight (k.AwaitEvent n t) ≡ 0
unfolding stmt_weight
weight_of_await_event n t = refl

pub weight_of_forever : stmt_weight k.Forever ≡ 0
unfolding stmt_weight
weight_of_forever = refl

pub weight_of_await_code : (c : ℕ) (es : List KExp) (f : ℕ) (t : _) → stmt_weight (k.AwaitCode c es f t) ≡ total exp_weight es
unfolding stmt_weight
weight_of_await_code c es f t = refl

pub weight_of_spawn : (c : ℕ) (es : List KExp) (p : ℕ) (a : _) → stmt_weight (k.Spawn c es p a) ≡ total exp_weight es
unfolding stmt_weight
weight_of_spawn c es p a = refl

pub weight_of_kill : (n : ℕ) → stmt_weight (k.Kill n) ≡ 0
unfolding stmt_weight
weight_of_kill n = refl

pub weight_of_unset : (n : ℕ) → stmt_weight (k.Unset n) ≡ 0
unfolding stmt_weight
weight_of_unset n = refl

pub weight_of_async : (b : KBlock) → stmt_weight (k.Async b) ≡ block_weight b
unfolding stmt_weight
weight_of_async b = refl

pub weight_of_finalize : (b : KBlock) → stmt_weight (k.Finalize b) ≡ block_weight b
unfolding stmt_weight
weight_of_finalize b = refl

pub weight_of_do : (t : _) (b : KBlock) → stmt_weight (k.Do t b) ≡ block_weight b
unfolding stmt_weight
weight_of_do t b = refl

pub weight_of_escape : (n : ℕ) (e : _) → stmt_weight (k.Escape n e) ≡ weight_if e
unfolding stmt_weight
weight_of_escape n e = refl

pub weight_of_break : (n : ℕ) → stmt_weight (k.Break n) ≡ 0
unfolding stmt_weight
weight_of_break n = refl

pub weight_of_continue : (n : ℕ) → stmt_weight (k.Continue n) ≡ 0
unfolding stmt_weight
weight_of_continue n = refl

pub weight_of_loop : (kind : _) (b : KBlock) → stmt_weight (k.Loop kind b) ≡ loop_weight kind + block_weight b
unfolding stmt_weight
weight_of_loop kind b = refl

weight_KNode_row : {n : _} (r : Row_of-KNode n) → nodes_weight r ≡ total node_weight (items-the_row-KNode n r)
unfolding stmt_weight
weight_KNode_row end_of-KNode = refl
weight_KNode_row (more_of-KNode n p s rest) = ap (λ k. 48 + stmt_weight s + k) (weight_KNode_row rest)

weight_KArm_row : {n : _} (r : Row_of-KArm n) → arms_weight r ≡ total arm_weight (items-the_row-KArm n r)
unfolding stmt_weight
weight_KArm_row end_of-KArm = refl
weight_KArm_row (more_of-KArm b rest) = ap (λ k. arm_weight b + k) (weight_KArm_row rest)

weight_KBlock_row : {n : _} (r : Row_of-KBlock n) → blocks_weight r ≡ total branch_weight (items-the_row-KBlock n r)
unfolding stmt_weight
weight_KBlock_row end_of-KBlock = refl
weight_KBlock_row (more_of-KBlock b rest) = ap (λ k. 48 + block_weight b + k) (weight_KBlock_row rest)

pub weight_of_block : (b : KBlock) → block_weight b ≡ 48 * length (out-KBlock b).decls + total node_weight (out-KBlock b).list
unfolding stmt_weight out-KBlock Carrier.out
weight_of_block (KBlock' n ds x list) = ap (λ k. 48 * length ds + k) (weight_KNode_row list ∙ sym (ap (total node_weight) (items_shown-the_row-KNode-2 x list)))

pub weight_of_arm : (a : KArm) → arm_weight a ≡ 48 + exp_weight (out-KArm a).cond + block_weight (out-KArm a).body
unfolding stmt_weight out-KArm Carrier.out
weight_of_arm (KArm' c b) = refl

pub weight_of_if : (arms : List KArm) (last : KBlock) → stmt_weight (k.If arms last) ≡ total arm_weight arms + block_weight last
unfolding stmt_weight
weight_of_if arms last = ap (λ k. k + block_weight last) (weight_KArm_row (hidden-the_row-KArm-0 arms) ∙ ap (total arm_weight) (items_hidden-the_row-KArm-0 arms))

pub weight_of_par : (kind : _) (slot : ℕ) (bs : List KBlock) → stmt_weight (k.Par kind slot bs) ≡ total branch_weight bs
unfolding stmt_weight
weight_of_par kind slot bs = ap (λ k. k) (weight_KBlock_row (hidden-the_row-KBlock-1 bs) ∙ ap (total branch_weight) (items_hidden-the_row-KBlock-1 bs))

pub count_one : (op : Op1) (a : KExp) → node_count (exp.One op a) ≡ 1 + exp_count a
unfolding node_count hidden-the_row-KExp-0 Carrier.hidden
count_one op a = refl

pub count_two : (op : Op2) (a b : KExp) → node_count (exp.Two op a b) ≡ 1 + exp_count a + exp_count b
unfolding node_count hidden-the_row-KExp-0 Carrier.hidden
count_two op a b = refl

pub count_as : (a : KExp) → node_count (exp.As a) ≡ 1 + exp_count a
unfolding node_count hidden-the_row-KExp-0 Carrier.hidden
count_as a = refl

pub count_const : (v : _) → node_count (exp.Const v) ≡ 1
unfolding node_count
count_const v = refl

pub count_read : (l : _) → node_count (exp.Read l) ≡ 1
unfolding node_count
count_read l = refl

pub count_alive : (c : ℕ) → node_count (exp.Alive c) ≡ 1
unfolding node_count
count_alive c = refl

pub ruleset exp_counts = (count_one, count_two, count_as, count_const, count_read, count_alive)

pub ruleset weights = (weight_of_nothing, weight_of_assign, weight_of_out, weight_of_emit, weight_of_await_in, weight_of_await_time, weight_of_await_event, weight_of_forever, weight_of_await_code, weight_of_spawn, weight_of_kill, weight_of_unset, weight_of_async, weight_of_finalize, weight_of_do, weight_of_escape, weight_of_break, weight_of_continue, weight_of_loop, weight_of_block, weight_of_arm, weight_of_if, weight_of_par)
