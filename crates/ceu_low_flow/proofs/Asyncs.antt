-- One level of the search for a statement in an async.
use Rattle.std.proofs.Common.{◌≡◌, refl, sym, ap, ◌∙◌, ℕ, Bool, true, false, ◌||◌, ◌&&◌, ◌==◌, List}
use Rattle.ceu_tree.specs.declared.kernel.KExp.{KExp}
use Rattle.ceu_tree.specs.declared.kernel.KArm.{KArm, KArm', out-KArm}
use Rattle.ceu_tree.specs.declared.kernel.KBlock.{KBlock, KBlock', out-KBlock, Row_of-KNode, end_of-KNode, more_of-KNode, items-the_row-KNode, items_shown-the_row-KNode-2}
use Rattle.ceu_tree.specs.declared.kernel.KStmt as k
use Rattle.ceu_tree.specs.declared.kernel.KStmt.{KStmt, Row_of-KArm, end_of-KArm, more_of-KArm, items-the_row-KArm, items_hidden-the_row-KArm-0, items_hidden-the_row-KBlock-1, Row_of-KBlock, end_of-KBlock, more_of-KBlock, items-the_row-KBlock}
use Rattle.ceu_tree.specs.declared.kernel.KStmt.TheBlock.{hidden-the_row-KArm-0, hidden-the_row-KBlock-1}
use denote.Hole.Carrier
use Rattle.ceu_shape.specs.Searches.{stmt_async, block_async, arm_async, nodes_async, arms_async, blocks_async}
use Rattle.ceu_low_flow.specs.Lists.{node_list_async, arm_list_async, block_list_async}

pub nothing_async : (node : ℕ) (inside : Bool) → stmt_async node inside k.Nothing ≡ false
unfolding stmt_async
nothing_async node inside = refl

pub assign_async : (node : ℕ) (inside : Bool) (l : _) (e : KExp) → stmt_async node inside (k.Assign l e) ≡ false
unfolding stmt_async
assign_async node inside l e = refl

pub out_async : (node : ℕ) (inside : Bool) (n : ℕ) (e : _) → stmt_async node inside (k.Out n e) ≡ false
unfolding stmt_async
out_async node inside n e = refl

pub emit_async : (node : ℕ) (inside : Bool) (n : ℕ) (e : _) → stmt_async node inside (k.Emit n e) ≡ false
unfolding stmt_async
emit_async node inside n e = refl

pub await_in_async : (node : ℕ) (inside : Bool) (n : ℕ) (t : _) → stmt_async node inside (k.AwaitIn n t) ≡ false
unfolding stmt_async
await_in_async node inside n t = refl

pub await_time_async : (node : ℕ) (inside : Bool) (e : KExp) (u : _) (t : _) → stmt_async node inside (k.AwaitTime e u t) ≡ false
unfolding stmt_async
await_time_async node inside e u t = refl

pub await_event_async : (node : ℕ) (inside : Bool) (n : ℕ) (t : _) → stmt_async node inside (k.AwaitEvent n t) ≡ false
unfolding stmt_async
await_event_async node inside n t = refl

pub forever_async : (node : ℕ) (inside : Bool) → stmt_async node inside k.Forever ≡ false
unfolding stmt_async
forever_async node inside = refl

pub await_code_async : (node : ℕ) (inside : Bool) (c : ℕ) (es : List KExp) (f : ℕ) (t : _) → stmt_async node inside (k.AwaitCode c es f t) ≡ false
unfolding stmt_async
await_code_async node inside c es f t = refl

pub spawn_async : (node : ℕ) (inside : Bool) (c : ℕ) (es : List KExp) (p : ℕ) (a : _) → stmt_async node inside (k.Spawn c es p a) ≡ false
unfolding stmt_async
spawn_async node inside c es p a = refl

pub kill_async : (node : ℕ) (inside : Bool) (n : ℕ) → stmt_async node inside (k.Kill n) ≡ false
unfolding stmt_async
kill_async node inside n = refl

pub unset_async : (node : ℕ) (inside : Bool) (n : ℕ) → stmt_async node inside (k.Unset n) ≡ false
unfolding stmt_async
unset_async node inside n = refl

pub escape_async : (node : ℕ) (inside : Bool) (n : ℕ) (e : _) → stmt_async node inside (k.Escape n e) ≡ false
unfolding stmt_async
escape_async node inside n e = refl

pub break_async : (node : ℕ) (inside : Bool) (n : ℕ) → stmt_async node inside (k.Break n) ≡ false
unfolding stmt_async
break_async node inside n = refl

pub continue_async : (node : ℕ) (inside : Bool) (n : ℕ) → stmt_async node inside (k.Continue n) ≡ false
unfolding stmt_async
continue_async node inside n = refl

pub inner_async_async : (node : ℕ) (inside : Bool) (b : KBlock) → stmt_async node inside (k.Async b) ≡ block_async node true b
unfolding stmt_async
inner_async_async node inside b = refl

pub finalize_async : (node : ℕ) (inside : Bool) (b : KBlock) → stmt_async node inside (k.Finalize b) ≡ block_async node inside b
unfolding stmt_async
finalize_async node inside b = refl

pub loop_async : (node : ℕ) (inside : Bool) (kind : _) (b : KBlock) → stmt_async node inside (k.Loop kind b) ≡ block_async node inside b
unfolding stmt_async
loop_async node inside kind b = refl

pub do_async : (node : ℕ) (inside : Bool) (t : _) (b : KBlock) → stmt_async node inside (k.Do t b) ≡ block_async node inside b
unfolding stmt_async
do_async node inside t b = refl

node_row : (node : ℕ) (inside : Bool) {n : _} (r : Row_of-KNode n) → nodes_async node inside r ≡ node_list_async node inside (items-the_row-KNode n r)
unfolding stmt_async
node_row node inside end_of-KNode = refl
node_row node inside (more_of-KNode n p s rest) = ap (λ (b : Bool). ((inside && (n == node)) || stmt_async node inside s) || b) (node_row node inside rest)

arm_row : (node : ℕ) (inside : Bool) {n : _} (r : Row_of-KArm n) → arms_async node inside r ≡ arm_list_async node inside (items-the_row-KArm n r)
unfolding stmt_async
arm_row node inside end_of-KArm = refl
arm_row node inside (more_of-KArm a rest) = ap (λ (b : Bool). arm_async node inside a || b) (arm_row node inside rest)

block_row : (node : ℕ) (inside : Bool) {n : _} (r : Row_of-KBlock n) → blocks_async node inside r ≡ block_list_async node inside (items-the_row-KBlock n r)
unfolding stmt_async
block_row node inside end_of-KBlock = refl
block_row node inside (more_of-KBlock a rest) = ap (λ (b : Bool). block_async node inside a || b) (block_row node inside rest)

pub block_async_is : (node : ℕ) (inside : Bool) (b : KBlock) → block_async node inside b ≡ node_list_async node inside (out-KBlock b).list
unfolding stmt_async out-KBlock Carrier.out
block_async_is node inside (KBlock' n ds x list) = node_row node inside list ∙ sym (ap (node_list_async node inside) (items_shown-the_row-KNode-2 x list))

pub arm_async_is : (node : ℕ) (inside : Bool) (a : KArm) → arm_async node inside a ≡ block_async node inside (out-KArm a).body
unfolding stmt_async out-KArm Carrier.out
arm_async_is node inside (KArm' c b) = refl

pub if_async : (node : ℕ) (inside : Bool) (arms : List KArm) (last : KBlock) → stmt_async node inside (k.If arms last) ≡ arm_list_async node inside arms || block_async node inside last
unfolding stmt_async
if_async node inside arms last = ap (λ (t : Bool). t || block_async node inside last) (arm_row node inside (hidden-the_row-KArm-0 arms) ∙ ap (arm_list_async node inside) (items_hidden-the_row-KArm-0 arms))

pub par_async : (node : ℕ) (inside : Bool) (kind : _) (slot : ℕ) (bs : List KBlock) → stmt_async node inside (k.Par kind slot bs) ≡ block_list_async node inside bs
unfolding stmt_async
par_async node inside kind slot bs = block_row node inside (hidden-the_row-KBlock-1 bs) ∙ ap (block_list_async node inside) (items_hidden-the_row-KBlock-1 bs)

pub ruleset asyncs = (nothing_async, assign_async, out_async, emit_async, await_in_async, await_time_async, await_event_async, forever_async, await_code_async, spawn_async, kill_async, unset_async, escape_async, break_async, continue_async, inner_async_async, finalize_async, loop_async, do_async, block_async_is, arm_async_is, if_async, par_async)
