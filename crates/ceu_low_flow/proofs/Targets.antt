-- One level of the search for the target of an escape.
use Rattle.std.proofs.Common.{◌≡◌, refl, sym, ap, ◌∙◌, ℕ, List, Option, None}
use Rattle.ceu_tree.specs.declared.kernel.Loc.{Loc}
use Rattle.ceu_tree.specs.declared.kernel.KExp.{KExp}
use Rattle.ceu_tree.specs.declared.kernel.KArm.{KArm, KArm', out-KArm}
use Rattle.ceu_tree.specs.declared.kernel.KBlock.{KBlock, KBlock', out-KBlock, Row_of-KNode, end_of-KNode, more_of-KNode, items-the_row-KNode, items_shown-the_row-KNode-2}
use Rattle.ceu_tree.specs.declared.kernel.KStmt as k
use Rattle.ceu_tree.specs.declared.kernel.KStmt.{KStmt, Row_of-KArm, end_of-KArm, more_of-KArm, items-the_row-KArm, items_hidden-the_row-KArm-0, items_hidden-the_row-KBlock-1, Row_of-KBlock, end_of-KBlock, more_of-KBlock, items-the_row-KBlock}
use Rattle.ceu_tree.specs.declared.kernel.KStmt.TheBlock.{hidden-the_row-KArm-0, hidden-the_row-KBlock-1}
use denote.Hole.Carrier
use Rattle.ceu_shape.specs.Searches.{or_else, target_if, stmt_target, block_target, arm_target, nodes_target, arms_target, blocks_target}
use Rattle.ceu_low_flow.specs.Lists.{node_list_target, arm_list_target, block_list_target}

pub nothing_target : (node number : ℕ) → stmt_target node number k.Nothing ≡ None
unfolding stmt_target
nothing_target node number = refl

pub assign_target : (node number : ℕ) (l : _) (e : KExp) → stmt_target node number (k.Assign l e) ≡ None
unfolding stmt_target
assign_target node number l e = refl

pub out_target : (node number : ℕ) (n : ℕ) (e : _) → stmt_target node number (k.Out n e) ≡ None
unfolding stmt_target
out_target node number n e = refl

pub emit_target : (node number : ℕ) (n : ℕ) (e : _) → stmt_target node number (k.Emit n e) ≡ None
unfolding stmt_target
emit_target node number n e = refl

pub await_in_target : (node number : ℕ) (n : ℕ) (t : _) → stmt_target node number (k.AwaitIn n t) ≡ None
unfolding stmt_target
await_in_target node number n t = refl

pub await_time_target : (node number : ℕ) (e : KExp) (u : _) (t : _) → stmt_target node number (k.AwaitTime e u t) ≡ None
unfolding stmt_target
await_time_target node number e u t = refl

pub await_event_target : (node number : ℕ) (n : ℕ) (t : _) → stmt_target node number (k.AwaitEvent n t) ≡ None
unfolding stmt_target
await_event_target node number n t = refl

pub forever_target : (node number : ℕ) → stmt_target node number k.Forever ≡ None
unfolding stmt_target
forever_target node number = refl

pub await_code_target : (node number : ℕ) (c : ℕ) (es : List KExp) (f : ℕ) (t : _) → stmt_target node number (k.AwaitCode c es f t) ≡ None
unfolding stmt_target
await_code_target node number c es f t = refl

pub spawn_target : (node number : ℕ) (c : ℕ) (es : List KExp) (p : ℕ) (a : _) → stmt_target node number (k.Spawn c es p a) ≡ None
unfolding stmt_target
spawn_target node number c es p a = refl

pub kill_target : (node number : ℕ) (n : ℕ) → stmt_target node number (k.Kill n) ≡ None
unfolding stmt_target
kill_target node number n = refl

pub unset_target : (node number : ℕ) (n : ℕ) → stmt_target node number (k.Unset n) ≡ None
unfolding stmt_target
unset_target node number n = refl

pub escape_target : (node number : ℕ) (n : ℕ) (e : _) → stmt_target node number (k.Escape n e) ≡ None
unfolding stmt_target
escape_target node number n e = refl

pub break_target : (node number : ℕ) (n : ℕ) → stmt_target node number (k.Break n) ≡ None
unfolding stmt_target
break_target node number n = refl

pub continue_target : (node number : ℕ) (n : ℕ) → stmt_target node number (k.Continue n) ≡ None
unfolding stmt_target
continue_target node number n = refl

pub inner_async_target : (node number : ℕ) (b : KBlock) → stmt_target node number (k.Async b) ≡ block_target node b
unfolding stmt_target
inner_async_target node number b = refl

pub finalize_target : (node number : ℕ) (b : KBlock) → stmt_target node number (k.Finalize b) ≡ block_target node b
unfolding stmt_target
finalize_target node number b = refl

pub loop_target : (node number : ℕ) (kind : _) (b : KBlock) → stmt_target node number (k.Loop kind b) ≡ block_target node b
unfolding stmt_target
loop_target node number kind b = refl

pub do_target : (node number : ℕ) (t : _) (b : KBlock) → stmt_target node number (k.Do t b) ≡ or_else (target_if node number t) (block_target node b)
unfolding stmt_target
do_target node number t b = refl

node_row : (node : ℕ) {n : _} (r : Row_of-KNode n) → nodes_target node r ≡ node_list_target node (items-the_row-KNode n r)
unfolding stmt_target
node_row node end_of-KNode = refl
node_row node (more_of-KNode n p s rest) = ap (or_else (stmt_target node n s)) (node_row node rest)

arm_row : (node : ℕ) {n : _} (r : Row_of-KArm n) → arms_target node r ≡ arm_list_target node (items-the_row-KArm n r)
unfolding stmt_target
arm_row node end_of-KArm = refl
arm_row node (more_of-KArm a rest) = ap (or_else (arm_target node a)) (arm_row node rest)

block_row : (node : ℕ) {n : _} (r : Row_of-KBlock n) → blocks_target node r ≡ block_list_target node (items-the_row-KBlock n r)
unfolding stmt_target
block_row node end_of-KBlock = refl
block_row node (more_of-KBlock a rest) = ap (or_else (block_target node a)) (block_row node rest)

pub block_target_is : (node : ℕ) (b : KBlock) → block_target node b ≡ node_list_target node (out-KBlock b).list
unfolding stmt_target out-KBlock Carrier.out
block_target_is node (KBlock' n ds x list) = node_row node list ∙ sym (ap (node_list_target node) (items_shown-the_row-KNode-2 x list))

pub arm_target_is : (node : ℕ) (a : KArm) → arm_target node a ≡ block_target node (out-KArm a).body
unfolding stmt_target out-KArm Carrier.out
arm_target_is node (KArm' c b) = refl

pub if_target : (node number : ℕ) (arms : List KArm) (last : KBlock) → stmt_target node number (k.If arms last) ≡ or_else (arm_list_target node arms) (block_target node last)
unfolding stmt_target
if_target node number arms last = ap (λ (t : Option Loc). or_else t (block_target node last)) (arm_row node (hidden-the_row-KArm-0 arms) ∙ ap (arm_list_target node) (items_hidden-the_row-KArm-0 arms))

pub par_target : (node number : ℕ) (kind : _) (slot : ℕ) (bs : List KBlock) → stmt_target node number (k.Par kind slot bs) ≡ block_list_target node bs
unfolding stmt_target
par_target node number kind slot bs = block_row node (hidden-the_row-KBlock-1 bs) ∙ ap (block_list_target node) (items_hidden-the_row-KBlock-1 bs)

pub ruleset targets = (nothing_target, assign_target, out_target, emit_target, await_in_target, await_time_target, await_event_target, forever_target, await_code_target, spawn_target, kill_target, unset_target, escape_target, break_target, continue_target, inner_async_target, finalize_target, loop_target, do_target, block_target_is, arm_target_is, if_target, par_target)
