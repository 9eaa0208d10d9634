-- One level of how often a body uses a code.
use Rattle.std.proofs.Common.{◌≡◌, refl, sym, ap, ◌∙◌, ℕ, ◌+◌, if◌then◌else◌, List}
use Rattle.ceu_tree.specs.declared.kernel.KExp.{KExp}
use Rattle.ceu_tree.specs.declared.kernel.KArm.{KArm, KArm', out-KArm}
use Rattle.ceu_tree.specs.declared.kernel.KBlock.{KBlock, KBlock', out-KBlock, Row_of-KNode, end_of-KNode, more_of-KNode, items-the_row-KNode, items_shown-the_row-KNode-2}
use Rattle.ceu_tree.specs.declared.kernel.KStmt as k
use Rattle.ceu_tree.specs.declared.kernel.KStmt.{KStmt, out-KStmt, Row_of-KArm, end_of-KArm, more_of-KArm, items-the_row-KArm, items_hidden-the_row-KArm-0, items_hidden-the_row-KBlock-1, Row_of-KBlock, end_of-KBlock, more_of-KBlock, items-the_row-KBlock}
use Rattle.ceu_tree.specs.declared.kernel.KStmt.TheBlock.{hidden-the_row-KArm-0, hidden-the_row-KBlock-1}
use Rattle.ceu_tree.specs.Greatest.{total}
use Rattle.std.specs.Prelude.{◌==◌}
use Rattle.ceu_tree.specs.Costs.{pool_uses, uses, block_uses, arm_uses, nodes_uses, arms_uses, blocks_uses, node_uses}
use denote.Hole.Carrier

pub uses_of_nothing : (j : ℕ) → uses j k.Nothing ≡ 0
unfolding uses
uses_of_nothing j = refl

pub uses_of_assign : (j : ℕ) (l : _) (e : KExp) → uses j (k.Assign l e) ≡ 0
unfolding uses
uses_of_assign j l e = refl

pub uses_of_out : (j : ℕ) (n : ℕ) (e : _) → uses j (k.Out n e) ≡ 0
unfolding uses
uses_of_out j n e = refl

pub uses_of_emit : (j : ℕ) (n : ℕ) (e : _) → uses j (k.Emit n e) ≡ 0
unfolding uses
uses_of_emit j n e = refl

pub uses_of_await_in : (j : ℕ) (n : ℕ) (t : _) → uses j (k.AwaitIn n t) ≡ 0
unfolding uses
uses_of_await_in j n t = refl

pub uses_of_await_time : (j : ℕ) (e : KExp) (u : _) (t : _) → uses j (k.AwaitTime e u t) ≡ 0
unfolding uses
uses_of_await_time j e u t = refl

pub uses_of_await_event : (j : ℕ) (n : ℕ) (t : _) → uses j (k.AwaitEvent n t) ≡ 0
unfolding uses
uses_of_await_event j n t = refl

pub uses_of_forever : (j : ℕ) → uses j k.Forever ≡ 0
unfolding uses
uses_of_forever j = refl

pub uses_of_await_code : (j : ℕ) (c : ℕ) (es : List KExp) (f : ℕ) (t : _) → uses j (k.AwaitCode c es f t) ≡ (if c == j then 1 else 0)
unfolding uses
uses_of_await_code j c es f t = refl

pub uses_of_spawn : (j : ℕ) (c : ℕ) (es : List KExp) (p : ℕ) (a : _) → uses j (k.Spawn c es p a) ≡ 0
unfolding uses
uses_of_spawn j c es p a = refl

pub uses_of_kill : (j : ℕ) (n : ℕ) → uses j (k.Kill n) ≡ 0
unfolding uses
uses_of_kill j n = refl

pub uses_of_unset : (j : ℕ) (n : ℕ) → uses j (k.Unset n) ≡ 0
unfolding uses
uses_of_unset j n = refl

pub uses_of_async : (j : ℕ) (b : KBlock) → uses j (k.Async b) ≡ 0
unfolding uses
uses_of_async j b = refl

pub uses_of_finalize : (j : ℕ) (b : KBlock) → uses j (k.Finalize b) ≡ 0
unfolding uses
uses_of_finalize j b = refl

pub uses_of_do : (j : ℕ) (t : _) (b : KBlock) → uses j (k.Do t b) ≡ block_uses j b
unfolding uses
uses_of_do j t b = refl

pub uses_of_escape : (j : ℕ) (n : ℕ) (e : _) → uses j (k.Escape n e) ≡ 0
unfolding uses
uses_of_escape j n e = refl

pub uses_of_break : (j : ℕ) (n : ℕ) → uses j (k.Break n) ≡ 0
unfolding uses
uses_of_break j n = refl

pub uses_of_continue : (j : ℕ) (n : ℕ) → uses j (k.Continue n) ≡ 0
unfolding uses
uses_of_continue j n = refl

pub uses_of_loop : (j : ℕ) (kind : _) (b : KBlock) → uses j (k.Loop kind b) ≡ block_uses j b
unfolding uses
uses_of_loop j kind b = refl

uses_KNode_row : (j : ℕ) {n : _} (r : Row_of-KNode n) → nodes_uses j r ≡ total (node_uses j) (items-the_row-KNode n r)
unfolding uses
uses_KNode_row j end_of-KNode = refl
uses_KNode_row j (more_of-KNode n p s rest) = ap (λ k. uses j s + k) (uses_KNode_row j rest)

uses_KArm_row : (j : ℕ) {n : _} (r : Row_of-KArm n) → arms_uses j r ≡ total (arm_uses j) (items-the_row-KArm n r)
unfolding uses
uses_KArm_row j end_of-KArm = refl
uses_KArm_row j (more_of-KArm b rest) = ap (λ k. arm_uses j b + k) (uses_KArm_row j rest)

uses_KBlock_row : (j : ℕ) {n : _} (r : Row_of-KBlock n) → blocks_uses j r ≡ total (block_uses j) (items-the_row-KBlock n r)
unfolding uses
uses_KBlock_row j end_of-KBlock = refl
uses_KBlock_row j (more_of-KBlock b rest) = ap (λ k. block_uses j b + k) (uses_KBlock_row j rest)

pub uses_of_block : (j : ℕ) (b : KBlock) → block_uses j b ≡ pool_uses j (out-KBlock b).decls + total (node_uses j) (out-KBlock b).list
unfolding uses out-KBlock Carrier.out
uses_of_block j (KBlock' n ds x list) = ap (λ k. pool_uses j ds + k) (uses_KNode_row j list ∙ sym (ap (total (node_uses j)) (items_shown-the_row-KNode-2 x list)))

pub uses_of_arm : (j : ℕ) (a : KArm) → arm_uses j a ≡ block_uses j (out-KArm a).body
unfolding uses out-KArm Carrier.out
uses_of_arm j (KArm' c b) = refl

pub uses_of_if : (j : ℕ) (arms : List KArm) (last : KBlock) → uses j (k.If arms last) ≡ total (arm_uses j) arms + block_uses j last
unfolding uses
uses_of_if j arms last = ap (λ k. k + block_uses j last) (uses_KArm_row j (hidden-the_row-KArm-0 arms) ∙ ap (total (arm_uses j)) (items_hidden-the_row-KArm-0 arms))

pub uses_of_par : (j : ℕ) (kind : _) (slot : ℕ) (bs : List KBlock) → uses j (k.Par kind slot bs) ≡ total (block_uses j) bs
unfolding uses
uses_of_par j kind slot bs = ap (λ k. k) (uses_KBlock_row j (hidden-the_row-KBlock-1 bs) ∙ ap (total (block_uses j)) (items_hidden-the_row-KBlock-1 bs))

pub ruleset use_counts = (uses_of_nothing, uses_of_assign, uses_of_out, uses_of_emit, uses_of_await_in, uses_of_await_time, uses_of_await_event, uses_of_forever, uses_of_await_code, uses_of_spawn, uses_of_kill, uses_of_unset, uses_of_async, uses_of_finalize, uses_of_do, uses_of_escape, uses_of_break, uses_of_continue, uses_of_loop, uses_of_block, uses_of_arm, uses_of_if, uses_of_par)
