-- One level of the emits of a body.
use Rattle.std.proofs.Common.{◌≡◌, refl, sym, ap, ◌∙◌, ℕ, List, [], ◌∷◌, ◌++◌}
use Rattle.ceu_tree.specs.declared.kernel.KExp.{KExp}
use Rattle.ceu_tree.specs.declared.kernel.KArm.{KArm, KArm', out-KArm}
use Rattle.ceu_tree.specs.declared.kernel.KBlock.{KBlock, KBlock', out-KBlock, Row_of-KNode, end_of-KNode, more_of-KNode, items-the_row-KNode, items_shown-the_row-KNode-2}
use Rattle.ceu_tree.specs.declared.kernel.KStmt as k
use Rattle.ceu_tree.specs.declared.kernel.KStmt.{KStmt, out-KStmt, Row_of-KArm, end_of-KArm, more_of-KArm, items-the_row-KArm, items_hidden-the_row-KArm-0, items_hidden-the_row-KBlock-1, Row_of-KBlock, end_of-KBlock, more_of-KBlock, items-the_row-KBlock}
use Rattle.ceu_tree.specs.declared.kernel.KStmt.TheBlock.{hidden-the_row-KArm-0, hidden-the_row-KBlock-1}
use Rattle.ceu_paths.specs.Joined.{joined}
use Rattle.ceu_paths.specs.Emits.{emits, block_emits, arm_emits, nodes_emits, arms_emits, blocks_emits, node_emits}
use denote.Hole.Carrier

pub emits_of_nothing : emits k.Nothing ≡ []
unfolding emits
emits_of_nothing = refl

pub emits_of_assign : (l : _) (e : KExp) → emits (k.Assign l e) ≡ []
unfolding emits
emits_of_assign l e = refl

pub emits_of_out : (n : ℕ) (e : _) → emits (k.Out n e) ≡ []
unfolding emits
emits_of_out n e = refl

pub emits_of_emit : (n : ℕ) (e : _) → emits (k.Emit n e) ≡ n ∷ []
unfolding emits
emits_of_emit n e = refl

pub emits_of_await_in : (n : ℕ) (t : _) → emits (k.AwaitIn n t) ≡ []
unfolding emits
emits_of_await_in n t = refl

pub emits_of_await_time : (e : KExp) (u : _) (t : _) → emits (k.AwaitTime e u t) ≡ []
unfolding emits
emits_of_await_time e u t = refl

pub emits_of_await_event : (n : ℕ) (t : _) → emits (k.AwaitEvent n t) ≡ []
unfolding emits
emits_of_await_event n t = refl

pub emits_of_forever : emits k.Forever ≡ []
unfolding emits
emits_of_forever = refl

pub emits_of_await_code : (c : ℕ) (es : List KExp) (f : ℕ) (t : _) → emits (k.AwaitCode c es f t) ≡ []
unfolding emits
emits_of_await_code c es f t = refl

pub emits_of_spawn : (c : ℕ) (es : List KExp) (p : ℕ) (a : _) → emits (k.Spawn c es p a) ≡ []
unfolding emits
emits_of_spawn c es p a = refl

pub emits_of_kill : (n : ℕ) → emits (k.Kill n) ≡ []
unfolding emits
emits_of_kill n = refl

pub emits_of_unset : (n : ℕ) → emits (k.Unset n) ≡ []
unfolding emits
emits_of_unset n = refl

pub emits_of_async : (b : KBlock) → emits (k.Async b) ≡ []
unfolding emits
emits_of_async b = refl

pub emits_of_finalize : (b : KBlock) → emits (k.Finalize b) ≡ []
unfolding emits
emits_of_finalize b = refl

pub emits_of_escape : (n : ℕ) (e : _) → emits (k.Escape n e) ≡ []
unfolding emits
emits_of_escape n e = refl

pub emits_of_break : (n : ℕ) → emits (k.Break n) ≡ []
unfolding emits
emits_of_break n = refl

pub emits_of_continue : (n : ℕ) → emits (k.Continue n) ≡ []
unfolding emits
emits_of_continue n = refl

pub emits_of_do : (t : _) (b : KBlock) → emits (k.Do t b) ≡ block_emits b
unfolding emits
emits_of_do t b = refl

pub emits_of_loop : (kind : _) (b : KBlock) → emits (k.Loop kind b) ≡ block_emits b
unfolding emits
emits_of_loop kind b = refl

node_row : {n : _} (r : Row_of-KNode n) → nodes_emits r ≡ joined node_emits (items-the_row-KNode n r)
unfolding emits
node_row end_of-KNode = refl
node_row (more_of-KNode n p s rest) = ap (λ k. emits s ++ k) (node_row rest)

arm_row : {n : _} (r : Row_of-KArm n) → arms_emits r ≡ joined arm_emits (items-the_row-KArm n r)
unfolding emits
arm_row end_of-KArm = refl
arm_row (more_of-KArm b rest) = ap (λ k. arm_emits b ++ k) (arm_row rest)

block_row : {n : _} (r : Row_of-KBlock n) → blocks_emits r ≡ joined block_emits (items-the_row-KBlock n r)
unfolding emits
block_row end_of-KBlock = refl
block_row (more_of-KBlock b rest) = ap (λ k. block_emits b ++ k) (block_row rest)

pub emits_of_block : (b : KBlock) → block_emits b ≡ joined node_emits (out-KBlock b).list
unfolding emits out-KBlock Carrier.out
emits_of_block (KBlock' n ds x list) = ap (λ k. k) (node_row list ∙ sym (ap (joined node_emits) (items_shown-the_row-KNode-2 x list)))

pub emits_of_arm : (a : KArm) → arm_emits a ≡ block_emits (out-KArm a).body
unfolding emits out-KArm Carrier.out
emits_of_arm (KArm' c b) = refl

pub emits_of_if : (arms : List KArm) (last : KBlock) → emits (k.If arms last) ≡ joined arm_emits arms ++ block_emits last
unfolding emits
emits_of_if arms last = ap (λ k. k ++ block_emits last) (arm_row (hidden-the_row-KArm-0 arms) ∙ ap (joined arm_emits) (items_hidden-the_row-KArm-0 arms))

pub emits_of_par : (kind : _) (slot : ℕ) (bs : List KBlock) → emits (k.Par kind slot bs) ≡ joined block_emits bs
unfolding emits
emits_of_par kind slot bs = block_row (hidden-the_row-KBlock-1 bs) ∙ ap (joined block_emits) (items_hidden-the_row-KBlock-1 bs)

pub ruleset emit_lists = (emits_of_nothing, emits_of_assign, emits_of_out, emits_of_emit, emits_of_await_in, emits_of_await_time, emits_of_await_event, emits_of_forever, emits_of_await_code, emits_of_spawn, emits_of_kill, emits_of_unset, emits_of_async, emits_of_finalize, emits_of_escape, emits_of_break, emits_of_continue, emits_of_do, emits_of_loop, emits_of_block, emits_of_arm, emits_of_if, emits_of_par)
