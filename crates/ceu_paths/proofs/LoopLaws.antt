-- One level of the loops of a trail.
use Rattle.std.proofs.Common.{◌≡◌, refl, sym, ap, ◌∙◌, ℕ, List, [], ◌∷◌, ◌++◌}
use Rattle.ceu_base.specs.declared.kinds.Pos.{Pos}
use Rattle.ceu_tree.specs.declared.kernel.KExp.{KExp}
use Rattle.ceu_tree.specs.declared.kernel.KArm.{KArm, KArm', out-KArm}
use Rattle.ceu_tree.specs.declared.kernel.KBlock.{KBlock, KBlock', out-KBlock, Row_of-KNode, end_of-KNode, more_of-KNode, items-the_row-KNode, items_shown-the_row-KNode-2}
use Rattle.ceu_tree.specs.declared.kernel.KStmt as k
use Rattle.ceu_tree.specs.declared.kernel.KStmt.{KStmt, out-KStmt, Row_of-KArm, end_of-KArm, more_of-KArm, items-the_row-KArm, items_hidden-the_row-KArm-0, items_hidden-the_row-KBlock-1, Row_of-KBlock, end_of-KBlock, more_of-KBlock, items-the_row-KBlock}
use Rattle.ceu_tree.specs.declared.kernel.KStmt.TheBlock.{hidden-the_row-KArm-0, hidden-the_row-KBlock-1}
use Rattle.ceu_paths.specs.Loops.{trail_loop, loops, block_loops, arm_loops, nodes_loops, arms_loops, blocks_loops, node_loops}
use Rattle.ceu_paths.specs.Joined.{joined}
use denote.Hole.Carrier

pub loops_of_nothing : (m : ℕ) (q : Pos) → loops m q k.Nothing ≡ []
unfolding loops
loops_of_nothing m q = refl

pub loops_of_assign : (m : ℕ) (q : Pos) (l : _) (e : KExp) → loops m q (k.Assign l e) ≡ []
unfolding loops
loops_of_assign m q l e = refl

pub loops_of_out : (m : ℕ) (q : Pos) (n : ℕ) (e : _) → loops m q (k.Out n e) ≡ []
unfolding loops
loops_of_out m q n e = refl

pub loops_of_emit : (m : ℕ) (q : Pos) (n : ℕ) (e : _) → loops m q (k.Emit n e) ≡ []
unfolding loops
loops_of_emit m q n e = refl

pub loops_of_await_in : (m : ℕ) (q : Pos) (n : ℕ) (t : _) → loops m q (k.AwaitIn n t) ≡ []
unfolding loops
loops_of_await_in m q n t = refl

pub loops_of_await_time : (m : ℕ) (q : Pos) (e : KExp) (u : _) (t : _) → loops m q (k.AwaitTime e u t) ≡ []
unfolding loops
loops_of_await_time m q e u t = refl

pub loops_of_await_event : (m : ℕ) (q : Pos) (n : ℕ) (t : _) → loops m q (k.AwaitEvent n t) ≡ []
unfolding loops
loops_of_await_event m q n t = refl

pub loops_of_forever : (m : ℕ) (q : Pos) → loops m q k.Forever ≡ []
unfolding loops
loops_of_forever m q = refl

pub loops_of_await_code : (m : ℕ) (q : Pos) (c : ℕ) (es : List KExp) (f : ℕ) (t : _) → loops m q (k.AwaitCode c es f t) ≡ []
unfolding loops
loops_of_await_code m q c es f t = refl

pub loops_of_spawn : (m : ℕ) (q : Pos) (c : ℕ) (es : List KExp) (p : ℕ) (a : _) → loops m q (k.Spawn c es p a) ≡ []
unfolding loops
loops_of_spawn m q c es p a = refl

pub loops_of_kill : (m : ℕ) (q : Pos) (n : ℕ) → loops m q (k.Kill n) ≡ []
unfolding loops
loops_of_kill m q n = refl

pub loops_of_unset : (m : ℕ) (q : Pos) (n : ℕ) → loops m q (k.Unset n) ≡ []
unfolding loops
loops_of_unset m q n = refl

pub loops_of_async : (m : ℕ) (q : Pos) (b : KBlock) → loops m q (k.Async b) ≡ []
unfolding loops
loops_of_async m q b = refl

pub loops_of_finalize : (m : ℕ) (q : Pos) (b : KBlock) → loops m q (k.Finalize b) ≡ []
unfolding loops
loops_of_finalize m q b = refl

pub loops_of_escape : (m : ℕ) (q : Pos) (n : ℕ) (e : _) → loops m q (k.Escape n e) ≡ []
unfolding loops
loops_of_escape m q n e = refl

pub loops_of_break : (m : ℕ) (q : Pos) (n : ℕ) → loops m q (k.Break n) ≡ []
unfolding loops
loops_of_break m q n = refl

pub loops_of_continue : (m : ℕ) (q : Pos) (n : ℕ) → loops m q (k.Continue n) ≡ []
unfolding loops
loops_of_continue m q n = refl

pub loops_of_do : (m : ℕ) (q : Pos) (t : _) (b : KBlock) → loops m q (k.Do t b) ≡ block_loops b
unfolding loops
loops_of_do m q t b = refl

pub loops_of_loop : (m : ℕ) (q : Pos) (kind : _) (b : KBlock) → loops m q (k.Loop kind b) ≡ trail_loop m q kind b ∷ block_loops b
unfolding loops
loops_of_loop m q kind b = refl

node_row : {n : _} (r : Row_of-KNode n) → nodes_loops r ≡ joined node_loops (items-the_row-KNode n r)
unfolding loops
node_row end_of-KNode = refl
node_row (more_of-KNode n p s rest) = ap (λ k. loops n p s ++ k) (node_row rest)

arm_row : {n : _} (r : Row_of-KArm n) → arms_loops r ≡ joined arm_loops (items-the_row-KArm n r)
unfolding loops
arm_row end_of-KArm = refl
arm_row (more_of-KArm b rest) = ap (λ k. arm_loops b ++ k) (arm_row rest)

block_row : {n : _} (r : Row_of-KBlock n) → blocks_loops r ≡ joined block_loops (items-the_row-KBlock n r)
unfolding loops
block_row end_of-KBlock = refl
block_row (more_of-KBlock b rest) = ap (λ k. block_loops b ++ k) (block_row rest)

pub loops_of_block : (b : KBlock) → block_loops b ≡ joined node_loops (out-KBlock b).list
unfolding loops out-KBlock Carrier.out
loops_of_block (KBlock' n ds x list) = node_row list ∙ sym (ap (joined node_loops) (items_shown-the_row-KNode-2 x list))

pub loops_of_arm : (a : KArm) → arm_loops a ≡ block_loops (out-KArm a).body
unfolding loops out-KArm Carrier.out
loops_of_arm (KArm' c b) = refl

pub loops_of_if : (m : ℕ) (q : Pos) (arms : List KArm) (last : KBlock) → loops m q (k.If arms last) ≡ joined arm_loops arms ++ block_loops last
unfolding loops
loops_of_if m q arms last = ap (λ k. k ++ block_loops last) (arm_row (hidden-the_row-KArm-0 arms) ∙ ap (joined arm_loops) (items_hidden-the_row-KArm-0 arms))

pub loops_of_par : (m : ℕ) (q : Pos) (kind : _) (slot : ℕ) (bs : List KBlock) → loops m q (k.Par kind slot bs) ≡ joined block_loops bs
unfolding loops
loops_of_par m q kind slot bs = block_row (hidden-the_row-KBlock-1 bs) ∙ ap (joined block_loops) (items_hidden-the_row-KBlock-1 bs)

pub ruleset loop_lists = (loops_of_nothing, loops_of_assign, loops_of_out, loops_of_emit, loops_of_await_in, loops_of_await_time, loops_of_await_event, loops_of_forever, loops_of_await_code, loops_of_spawn, loops_of_kill, loops_of_unset, loops_of_async, loops_of_finalize, loops_of_escape, loops_of_break, loops_of_continue, loops_of_do, loops_of_loop, loops_of_block, loops_of_arm, loops_of_if, loops_of_par)
