-- One level of the need of slots: each kind of statement, as the code builds it, and blocks by the lists that the code sees.
use Rattle.std.proofs.Common.{◌≡◌, refl, sym, ap, ◌∙◌, ℕ, ◌+◌, Bool, List}
use Rattle.ceu_tree.specs.declared.kernel.KExp.{KExp}
use Rattle.ceu_tree.specs.declared.kernel.KArm.{KArm, KArm', out-KArm}
use Rattle.ceu_tree.specs.declared.kernel.KBlock.{KBlock, KBlock', out-KBlock, Row_of-KNode, end_of-KNode, more_of-KNode, items-the_row-KNode, items_shown-the_row-KNode-2}
use Rattle.ceu_tree.specs.declared.kernel.KStmt as k
use Rattle.ceu_tree.specs.declared.kernel.KStmt.{KStmt, out-KStmt, Row_of-KArm, end_of-KArm, more_of-KArm, items-the_row-KArm, items_hidden-the_row-KArm-0, items_hidden-the_row-KBlock-1, Row_of-KBlock, end_of-KBlock, more_of-KBlock, items-the_row-KBlock}
use Rattle.ceu_tree.specs.declared.kernel.KStmt.TheBlock.{hidden-the_row-KArm-0, hidden-the_row-KBlock-1}
use Rattle.ceu_tree.specs.Greatest.{total}
use Rattle.ceu_tree.specs.Needs.{entry, apart, joined, loop_size, decls_size, branch_size, stmt_need, block_need, arm_need, nodes_need, arms_need, blocks_need, node_need, branch_need}
use denote.Hole.Carrier

pub need_of_nothing : (plain : Bool) (frames : List ℕ) → stmt_need plain frames k.Nothing ≡ 0
unfolding stmt_need
need_of_nothing plain frames = refl

pub need_of_assign : (plain : Bool) (frames : List ℕ) (l : _) (e : KExp) → stmt_need plain frames (k.Assign l e) ≡ 0
unfolding stmt_need
need_of_assign plain frames l e = refl

pub need_of_out : (plain : Bool) (frames : List ℕ) (n : ℕ) (e : _) → stmt_need plain frames (k.Out n e) ≡ 0
unfolding stmt_need
need_of_out plain frames n e = refl

pub need_of_emit : (plain : Bool) (frames : List ℕ) (n : ℕ) (e : _) → stmt_need plain frames (k.Emit n e) ≡ 0
unfolding stmt_need
need_of_emit plain frames n e = refl

pub need_of_await_in : (plain : Bool) (frames : List ℕ) (n : ℕ) (t : _) → stmt_need plain frames (k.AwaitIn n t) ≡ 0
unfolding stmt_need
need_of_await_in plain frames n t = refl

pub need_of_await_time : (plain : Bool) (frames : List ℕ) (e : KExp) (u : _) (t : _) → stmt_need plain frames (k.AwaitTime e u t) ≡ 0
unfolding stmt_need
need_of_await_time plain frames e u t = refl

pub need_of_await_event : (plain : Bool) (frames : List ℕ) (n : ℕ) (t : _) → stmt_need plain frames (k.AwaitEvent n t) ≡ 0
unfolding stmt_need
need_of_await_event plain frames n t = refl

pub need_of_forever : (plain : Bool) (frames : List ℕ) → stmt_need plain frames k.Forever ≡ 0
unfolding stmt_need
need_of_forever plain frames = refl

pub need_of_await_code : (plain : Bool) (frames : List ℕ) (c : ℕ) (es : List KExp) (f : ℕ) (t : _) → stmt_need plain frames (k.AwaitCode c es f t) ≡ entry c frames
unfolding stmt_need
need_of_await_code plain frames c es f t = refl

pub need_of_spawn : (plain : Bool) (frames : List ℕ) (c : ℕ) (es : List KExp) (p : ℕ) (a : _) → stmt_need plain frames (k.Spawn c es p a) ≡ 0
unfolding stmt_need
need_of_spawn plain frames c es p a = refl

pub need_of_kill : (plain : Bool) (frames : List ℕ) (n : ℕ) → stmt_need plain frames (k.Kill n) ≡ 0
unfolding stmt_need
need_of_kill plain frames n = refl

pub need_of_unset : (plain : Bool) (frames : List ℕ) (n : ℕ) → stmt_need plain frames (k.Unset n) ≡ 0
unfolding stmt_need
need_of_unset plain frames n = refl

pub need_of_async : (plain : Bool) (frames : List ℕ) (b : KBlock) → stmt_need plain frames (k.Async b) ≡ block_need plain frames b
unfolding stmt_need
need_of_async plain frames b = refl

pub need_of_finalize : (plain : Bool) (frames : List ℕ) (b : KBlock) → stmt_need plain frames (k.Finalize b) ≡ 0
unfolding stmt_need
need_of_finalize plain frames b = refl

pub need_of_do : (plain : Bool) (frames : List ℕ) (t : _) (b : KBlock) → stmt_need plain frames (k.Do t b) ≡ block_need plain frames b
unfolding stmt_need
need_of_do plain frames t b = refl

pub need_of_escape : (plain : Bool) (frames : List ℕ) (n : ℕ) (e : _) → stmt_need plain frames (k.Escape n e) ≡ 0
unfolding stmt_need
need_of_escape plain frames n e = refl

pub need_of_break : (plain : Bool) (frames : List ℕ) (n : ℕ) → stmt_need plain frames (k.Break n) ≡ 0
unfolding stmt_need
need_of_break plain frames n = refl

pub need_of_continue : (plain : Bool) (frames : List ℕ) (n : ℕ) → stmt_need plain frames (k.Continue n) ≡ 0
unfolding stmt_need
need_of_continue plain frames n = refl

pub need_of_loop : (plain : Bool) (frames : List ℕ) (kind : _) (b : KBlock) → stmt_need plain frames (k.Loop kind b) ≡ loop_size kind + block_need plain frames b
unfolding stmt_need
need_of_loop plain frames kind b = refl

need_KNode_row : (plain : Bool) (frames : List ℕ) {n : _} (r : Row_of-KNode n) → nodes_need plain frames r ≡ joined plain (node_need plain frames) (items-the_row-KNode n r)
unfolding stmt_need
need_KNode_row plain frames end_of-KNode = refl
need_KNode_row plain frames (more_of-KNode n p s rest) = ap (λ k. apart plain (stmt_need plain frames s) k) (need_KNode_row plain frames rest)

need_KArm_row : (plain : Bool) (frames : List ℕ) {n : _} (r : Row_of-KArm n) → arms_need plain frames r ≡ joined plain (arm_need plain frames) (items-the_row-KArm n r)
unfolding stmt_need
need_KArm_row plain frames end_of-KArm = refl
need_KArm_row plain frames (more_of-KArm b rest) = ap (λ k. apart plain (arm_need plain frames b) k) (need_KArm_row plain frames rest)

need_KBlock_row : (plain : Bool) (frames : List ℕ) (each : ℕ) {n : _} (r : Row_of-KBlock n) → blocks_need plain frames each r ≡ total (branch_need plain frames each) (items-the_row-KBlock n r)
unfolding stmt_need
need_KBlock_row plain frames each end_of-KBlock = refl
need_KBlock_row plain frames each (more_of-KBlock b rest) = ap (λ k. each + block_need plain frames b + k) (need_KBlock_row plain frames each rest)

pub need_of_block : (plain : Bool) (frames : List ℕ) (b : KBlock) → block_need plain frames b ≡ decls_size frames (out-KBlock b).decls + joined plain (node_need plain frames) (out-KBlock b).list
unfolding stmt_need out-KBlock Carrier.out
need_of_block plain frames (KBlock' n ds x list) = ap (λ k. decls_size frames ds + k) (need_KNode_row plain frames list ∙ sym (ap (joined plain (node_need plain frames)) (items_shown-the_row-KNode-2 x list)))

pub need_of_arm : (plain : Bool) (frames : List ℕ) (a : KArm) → arm_need plain frames a ≡ block_need plain frames (out-KArm a).body
unfolding stmt_need out-KArm Carrier.out
need_of_arm plain frames (KArm' c b) = refl

pub need_of_if : (plain : Bool) (frames : List ℕ) (arms : List KArm) (last : KBlock) → stmt_need plain frames (k.If arms last) ≡ apart plain (joined plain (arm_need plain frames) arms) (block_need plain frames last)
unfolding stmt_need
need_of_if plain frames arms last = ap (λ k. apart plain k (block_need plain frames last)) (need_KArm_row plain frames (hidden-the_row-KArm-0 arms) ∙ ap (joined plain (arm_need plain frames)) (items_hidden-the_row-KArm-0 arms))

pub need_of_par : (plain : Bool) (frames : List ℕ) (kind : _) (slot : ℕ) (bs : List KBlock) → stmt_need plain frames (k.Par kind slot bs) ≡ total (branch_need plain frames (branch_size kind)) bs
unfolding stmt_need
need_of_par plain frames kind slot bs = ap (λ k. k) (need_KBlock_row plain frames (branch_size kind) (hidden-the_row-KBlock-1 bs) ∙ ap (total (branch_need plain frames (branch_size kind))) (items_hidden-the_row-KBlock-1 bs))

pub ruleset needs = (need_of_nothing, need_of_assign, need_of_out, need_of_emit, need_of_await_in, need_of_await_time, need_of_await_event, need_of_forever, need_of_await_code, need_of_spawn, need_of_kill, need_of_unset, need_of_async, need_of_finalize, need_of_do, need_of_escape, need_of_break, need_of_continue, need_of_loop, need_of_block, need_of_arm, need_of_if, need_of_par)
