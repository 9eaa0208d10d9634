-- One level of the uses of a body.
use Rattle.std.proofs.Common.{◌≡◌, refl, sym, ap, ◌∙◌, ℕ, List, [], ◌∷◌, ◌++◌}
use Rattle.ceu_tree.specs.declared.kernel.KExp.{KExp}
use Rattle.ceu_tree.specs.declared.kernel.KArm.{KArm, KArm', out-KArm}
use Rattle.ceu_tree.specs.declared.kernel.KBlock.{KBlock, KBlock', out-KBlock, Row_of-KNode, end_of-KNode, more_of-KNode, items-the_row-KNode, items_shown-the_row-KNode-2}
use Rattle.ceu_tree.specs.declared.kernel.KStmt as k
use Rattle.ceu_tree.specs.declared.kernel.KStmt.{KStmt, out-KStmt, Row_of-KArm, end_of-KArm, more_of-KArm, items-the_row-KArm, items_hidden-the_row-KArm-0, items_hidden-the_row-KBlock-1, Row_of-KBlock, end_of-KBlock, more_of-KBlock, items-the_row-KBlock}
use Rattle.ceu_tree.specs.declared.kernel.KStmt.TheBlock.{hidden-the_row-KArm-0, hidden-the_row-KBlock-1}
use Rattle.ceu_paths.specs.Joined.{joined}
use Rattle.ceu_paths.specs.Uses.{code_use, decl_uses, uses, block_uses, arm_uses, nodes_uses, arms_uses, blocks_uses, node_uses}
use denote.Hole.Carrier

pub uses_of_nothing : uses k.Nothing ≡ []
unfolding uses
uses_of_nothing = refl

pub uses_of_assign : (l : _) (e : KExp) → uses (k.Assign l e) ≡ []
unfolding uses
uses_of_assign l e = refl

pub uses_of_out : (n : ℕ) (e : _) → uses (k.Out n e) ≡ []
unfolding uses
uses_of_out n e = refl

pub uses_of_emit : (n : ℕ) (e : _) → uses (k.Emit n e) ≡ []
unfolding uses
uses_of_emit n e = refl

pub uses_of_await_in : (n : ℕ) (t : _) → uses (k.AwaitIn n t) ≡ []
unfolding uses
uses_of_await_in n t = refl

pub uses_of_await_time : (e : KExp) (u : _) (t : _) → uses (k.AwaitTime e u t) ≡ []
unfolding uses
uses_of_await_time e u t = refl

pub uses_of_await_event : (n : ℕ) (t : _) → uses (k.AwaitEvent n t) ≡ []
unfolding uses
uses_of_await_event n t = refl

pub uses_of_forever : uses k.Forever ≡ []
unfolding uses
uses_of_forever = refl

pub uses_of_await_code : (c : ℕ) (es : List KExp) (f : ℕ) (t : _) → uses (k.AwaitCode c es f t) ≡ code_use c 1 ∷ []
unfolding uses
uses_of_await_code c es f t = refl

pub uses_of_spawn : (c : ℕ) (es : List KExp) (p : ℕ) (a : _) → uses (k.Spawn c es p a) ≡ []
unfolding uses
uses_of_spawn c es p a = refl

pub uses_of_kill : (n : ℕ) → uses (k.Kill n) ≡ []
unfolding uses
uses_of_kill n = refl

pub uses_of_unset : (n : ℕ) → uses (k.Unset n) ≡ []
unfolding uses
uses_of_unset n = refl

pub uses_of_async : (b : KBlock) → uses (k.Async b) ≡ []
unfolding uses
uses_of_async b = refl

pub uses_of_finalize : (b : KBlock) → uses (k.Finalize b) ≡ []
unfolding uses
uses_of_finalize b = refl

pub uses_of_escape : (n : ℕ) (e : _) → uses (k.Escape n e) ≡ []
unfolding uses
uses_of_escape n e = refl

pub uses_of_break : (n : ℕ) → uses (k.Break n) ≡ []
unfolding uses
uses_of_break n = refl

pub uses_of_continue : (n : ℕ) → uses (k.Continue n) ≡ []
unfolding uses
uses_of_continue n = refl

pub uses_of_do : (t : _) (b : KBlock) → uses (k.Do t b) ≡ block_uses b
unfolding uses
uses_of_do t b = refl

pub uses_of_loop : (kind : _) (b : KBlock) → uses (k.Loop kind b) ≡ block_uses b
unfolding uses
uses_of_loop kind b = refl

node_row : {n : _} (r : Row_of-KNode n) → nodes_uses r ≡ joined node_uses (items-the_row-KNode n r)
unfolding uses
node_row end_of-KNode = refl
node_row (more_of-KNode n p s rest) = ap (λ k. uses s ++ k) (node_row rest)

arm_row : {n : _} (r : Row_of-KArm n) → arms_uses r ≡ joined arm_uses (items-the_row-KArm n r)
unfolding uses
arm_row end_of-KArm = refl
arm_row (more_of-KArm b rest) = ap (λ k. arm_uses b ++ k) (arm_row rest)

block_row : {n : _} (r : Row_of-KBlock n) → blocks_uses r ≡ joined block_uses (items-the_row-KBlock n r)
unfolding uses
block_row end_of-KBlock = refl
block_row (more_of-KBlock b rest) = ap (λ k. block_uses b ++ k) (block_row rest)

pub uses_of_block : (b : KBlock) → block_uses b ≡ joined decl_uses (out-KBlock b).decls ++ joined node_uses (out-KBlock b).list
unfolding uses out-KBlock Carrier.out
uses_of_block (KBlock' n ds x list) = ap (λ k. joined decl_uses ds ++ k) (node_row list ∙ sym (ap (joined node_uses) (items_shown-the_row-KNode-2 x list)))

pub uses_of_arm : (a : KArm) → arm_uses a ≡ block_uses (out-KArm a).body
unfolding uses out-KArm Carrier.out
uses_of_arm (KArm' c b) = refl

pub uses_of_if : (arms : List KArm) (last : KBlock) → uses (k.If arms last) ≡ joined arm_uses arms ++ block_uses last
unfolding uses
uses_of_if arms last = ap (λ k. k ++ block_uses last) (arm_row (hidden-the_row-KArm-0 arms) ∙ ap (joined arm_uses) (items_hidden-the_row-KArm-0 arms))

pub uses_of_par : (kind : _) (slot : ℕ) (bs : List KBlock) → uses (k.Par kind slot bs) ≡ joined block_uses bs
unfolding uses
uses_of_par kind slot bs = block_row (hidden-the_row-KBlock-1 bs) ∙ ap (joined block_uses) (items_hidden-the_row-KBlock-1 bs)

pub ruleset use_lists = (uses_of_nothing, uses_of_assign, uses_of_out, uses_of_emit, uses_of_await_in, uses_of_await_time, uses_of_await_event, uses_of_forever, uses_of_await_code, uses_of_spawn, uses_of_kill, uses_of_unset, uses_of_async, uses_of_finalize, uses_of_escape, uses_of_break, uses_of_continue, uses_of_do, uses_of_loop, uses_of_block, uses_of_arm, uses_of_if, uses_of_par)
