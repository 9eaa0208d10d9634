-- One level of the places of slots: each kind of statement, as the code builds it, and blocks by the lists that the code sees.
use Rattle.std.proofs.Common.{◌≡◌, refl, sym, ap, ◌∙◌, ℕ, suc, ◌+◌, ◌*◌, Bool, List, [], ◌∷◌, ◌++◌, length, arith}
use Rattle.ceu_tree.specs.declared.kernel.KExp.{KExp}
use Rattle.ceu_tree.specs.declared.kernel.KArm.{KArm, KArm', out-KArm}
use Rattle.ceu_tree.specs.declared.kernel.KBlock.{KBlock, KBlock', out-KBlock, Row_of-KNode, end_of-KNode, more_of-KNode, items-the_row-KNode, items_shown-the_row-KNode-2}
use Rattle.ceu_tree.specs.declared.kernel.KStmt as k
use Rattle.ceu_tree.specs.declared.kernel.KStmt.{KStmt, Row_of-KArm, end_of-KArm, more_of-KArm, items-the_row-KArm, items_hidden-the_row-KArm-0, items_hidden-the_row-KBlock-1, Row_of-KBlock, end_of-KBlock, more_of-KBlock, items-the_row-KBlock}
use Rattle.ceu_tree.specs.declared.kernel.KStmt.TheBlock.{hidden-the_row-KArm-0, hidden-the_row-KBlock-1}
use Rattle.ceu_tree.specs.Greatest.{total}
use Rattle.ceu_tree.specs.Needs.{entry, apart, joined, decls_size, loop_size, branch_size, stmt_need, block_need, arm_need, arms_need, branch_need}
use Rattle.ceu_tree.specs.Numbering.{row_length}
use Rattle.ceu_tree.proofs.NeedLaws.{need_of_par}
use Rattle.ceu_slots.specs.Layout.{place, behind, decl_places, turn_places, byte_places, stmt_places, block_places, arm_places, nodes_places, arms_places, blocks_places, list_places, arm_list_places, block_list_places}
use denote.Hole.Carrier

pub places_of_nothing : (plain : Bool) (frames : List ℕ) (at : ℕ) → stmt_places plain frames at k.Nothing ≡ []
unfolding stmt_places
places_of_nothing plain frames at = refl

pub places_of_assign : (plain : Bool) (frames : List ℕ) (at : ℕ) (l : _) (e : KExp) → stmt_places plain frames at (k.Assign l e) ≡ []
unfolding stmt_places
places_of_assign plain frames at l e = refl

pub places_of_out : (plain : Bool) (frames : List ℕ) (at : ℕ) (n : ℕ) (e : _) → stmt_places plain frames at (k.Out n e) ≡ []
unfolding stmt_places
places_of_out plain frames at n e = refl

pub places_of_emit : (plain : Bool) (frames : List ℕ) (at : ℕ) (n : ℕ) (e : _) → stmt_places plain frames at (k.Emit n e) ≡ []
unfolding stmt_places
places_of_emit plain frames at n e = refl

pub places_of_await_in : (plain : Bool) (frames : List ℕ) (at : ℕ) (n : ℕ) (t : _) → stmt_places plain frames at (k.AwaitIn n t) ≡ []
unfolding stmt_places
places_of_await_in plain frames at n t = refl

pub places_of_await_time : (plain : Bool) (frames : List ℕ) (at : ℕ) (e : KExp) (u : _) (t : _) → stmt_places plain frames at (k.AwaitTime e u t) ≡ []
unfolding stmt_places
places_of_await_time plain frames at e u t = refl

pub places_of_await_event : (plain : Bool) (frames : List ℕ) (at : ℕ) (n : ℕ) (t : _) → stmt_places plain frames at (k.AwaitEvent n t) ≡ []
unfolding stmt_places
places_of_await_event plain frames at n t = refl

pub places_of_forever : (plain : Bool) (frames : List ℕ) (at : ℕ) → stmt_places plain frames at k.Forever ≡ []
unfolding stmt_places
places_of_forever plain frames at = refl

pub places_of_spawn : (plain : Bool) (frames : List ℕ) (at : ℕ) (c : ℕ) (es : List KExp) (p : ℕ) (a : _) → stmt_places plain frames at (k.Spawn c es p a) ≡ []
unfolding stmt_places
places_of_spawn plain frames at c es p a = refl

pub places_of_kill : (plain : Bool) (frames : List ℕ) (at : ℕ) (n : ℕ) → stmt_places plain frames at (k.Kill n) ≡ []
unfolding stmt_places
places_of_kill plain frames at n = refl

pub places_of_unset : (plain : Bool) (frames : List ℕ) (at : ℕ) (n : ℕ) → stmt_places plain frames at (k.Unset n) ≡ []
unfolding stmt_places
places_of_unset plain frames at n = refl

pub places_of_finalize : (plain : Bool) (frames : List ℕ) (at : ℕ) (b : KBlock) → stmt_places plain frames at (k.Finalize b) ≡ []
unfolding stmt_places
places_of_finalize plain frames at b = refl

pub places_of_escape : (plain : Bool) (frames : List ℕ) (at : ℕ) (n : ℕ) (e : _) → stmt_places plain frames at (k.Escape n e) ≡ []
unfolding stmt_places
places_of_escape plain frames at n e = refl

pub places_of_break : (plain : Bool) (frames : List ℕ) (at : ℕ) (n : ℕ) → stmt_places plain frames at (k.Break n) ≡ []
unfolding stmt_places
places_of_break plain frames at n = refl

pub places_of_continue : (plain : Bool) (frames : List ℕ) (at : ℕ) (n : ℕ) → stmt_places plain frames at (k.Continue n) ≡ []
unfolding stmt_places
places_of_continue plain frames at n = refl

pub places_of_async : (plain : Bool) (frames : List ℕ) (at : ℕ) (b : KBlock) → stmt_places plain frames at (k.Async b) ≡ block_places plain frames at b
unfolding stmt_places
places_of_async plain frames at b = refl

pub places_of_do : (plain : Bool) (frames : List ℕ) (at : ℕ) (t : _) (b : KBlock) → stmt_places plain frames at (k.Do t b) ≡ block_places plain frames at b
unfolding stmt_places
places_of_do plain frames at t b = refl

pub places_of_loop : (plain : Bool) (frames : List ℕ) (at : ℕ) (kind : _) (b : KBlock) → stmt_places plain frames at (k.Loop kind b) ≡ turn_places at kind ++ block_places plain frames (at + loop_size kind) b
unfolding stmt_places
places_of_loop plain frames at kind b = refl

pub places_of_await_code : (plain : Bool) (frames : List ℕ) (at c : ℕ) (es : List KExp) (f : ℕ) (t : _) → stmt_places plain frames at (k.AwaitCode c es f t) ≡ place f at (entry c frames) ∷ []
unfolding stmt_places
places_of_await_code plain frames at c es f t = refl

nodes_row : (plain : Bool) (frames : List ℕ) (at : ℕ) {n : _} (r : Row_of-KNode n) → nodes_places plain frames at r ≡ list_places plain frames at (items-the_row-KNode n r)
unfolding stmt_places
nodes_row plain frames at end_of-KNode = refl
nodes_row plain frames at (more_of-KNode n p s rest) = ap (λ k. stmt_places plain frames at s ++ k) (nodes_row plain frames (behind plain at (stmt_need plain frames s)) rest)

arms_row : (plain : Bool) (frames : List ℕ) (at : ℕ) {n : _} (r : Row_of-KArm n) → arms_places plain frames at r ≡ arm_list_places plain frames at (items-the_row-KArm n r)
unfolding stmt_places
arms_row plain frames at end_of-KArm = refl
arms_row plain frames at (more_of-KArm a rest) = ap (λ k. arm_places plain frames at a ++ k) (arms_row plain frames (behind plain at (arm_need plain frames a)) rest)

blocks_row : (plain : Bool) (frames : List ℕ) (at : ℕ) {n : _} (r : Row_of-KBlock n) → blocks_places plain frames at r ≡ block_list_places plain frames at (items-the_row-KBlock n r)
unfolding stmt_places
blocks_row plain frames at end_of-KBlock = refl
blocks_row plain frames at (more_of-KBlock b rest) = ap (λ k. block_places plain frames at b ++ k) (blocks_row plain frames (at + block_need plain frames b) rest)

arms_need_row : (plain : Bool) (frames : List ℕ) {n : _} (r : Row_of-KArm n) → arms_need plain frames r ≡ joined plain (arm_need plain frames) (items-the_row-KArm n r)
unfolding stmt_need
arms_need_row plain frames end_of-KArm = refl
arms_need_row plain frames (more_of-KArm a rest) = ap (λ k. apart plain (arm_need plain frames a) k) (arms_need_row plain frames rest)

count_row : {n : _} (r : Row_of-KBlock n) → row_length r ≡ length (items-the_row-KBlock n r)
count_row end_of-KBlock = refl
count_row (more_of-KBlock b rest) = ap suc (count_row rest)

pub places_of_block : (plain : Bool) (frames : List ℕ) (at : ℕ) (b : KBlock) →
    block_places plain frames at b ≡ decl_places frames at (out-KBlock b).decls ++ list_places plain frames (at + decls_size frames (out-KBlock b).decls) (out-KBlock b).list
unfolding stmt_places out-KBlock Carrier.out
places_of_block plain frames at (KBlock' n ds x list) =
    ap (λ k. decl_places frames at ds ++ k) (nodes_row plain frames (at + decls_size frames ds) list ∙ sym (ap (list_places plain frames (at + decls_size frames ds)) (items_shown-the_row-KNode-2 x list)))

pub places_of_arm : (plain : Bool) (frames : List ℕ) (at : ℕ) (a : KArm) → arm_places plain frames at a ≡ block_places plain frames at (out-KArm a).body
unfolding stmt_places out-KArm Carrier.out
places_of_arm plain frames at (KArm' c b) = refl

pub places_of_if : (plain : Bool) (frames : List ℕ) (at : ℕ) (arms : List KArm) (last : KBlock) →
    stmt_places plain frames at (k.If arms last) ≡ arm_list_places plain frames at arms ++ block_places plain frames (behind plain at (joined plain (arm_need plain frames) arms)) last
unfolding stmt_places
places_of_if plain frames at arms last =
    ap (λ k. k ++ block_places plain frames (behind plain at (arms_need plain frames (hidden-the_row-KArm-0 arms))) last) (arms_row plain frames at (hidden-the_row-KArm-0 arms) ∙ ap (arm_list_places plain frames at) (items_hidden-the_row-KArm-0 arms)) ∙
    ap (λ k. arm_list_places plain frames at arms ++ block_places plain frames (behind plain at k) last) (arms_need_row plain frames (hidden-the_row-KArm-0 arms) ∙ ap (joined plain (arm_need plain frames)) (items_hidden-the_row-KArm-0 arms))

pub places_of_par : (plain : Bool) (frames : List ℕ) (at : ℕ) (kind : _) (slot : ℕ) (bs : List KBlock) →
    stmt_places plain frames at (k.Par kind slot bs) ≡ byte_places slot at (branch_size kind * length bs) ++ block_list_places plain frames (at + branch_size kind * length bs) bs
unfolding stmt_places
places_of_par plain frames at kind slot bs =
    let row = hidden-the_row-KBlock-1 bs in
    ap (λ k. byte_places slot at (branch_size kind * k) ++ blocks_places plain frames (at + branch_size kind * k) row) (count_row row ∙ ap length (items_hidden-the_row-KBlock-1 bs)) ∙
    ap (λ k. byte_places slot at (branch_size kind * length bs) ++ k) (blocks_row plain frames (at + branch_size kind * length bs) row ∙ ap (block_list_places plain frames (at + branch_size kind * length bs)) (items_hidden-the_row-KBlock-1 bs))

branches_apart : (plain : Bool) (frames : List ℕ) (each : ℕ) (bs : List KBlock) → total (branch_need plain frames each) bs ≡ each * length bs + total (block_need plain frames) bs
branches_apart plain frames each [] = omega arith
branches_apart plain frames each (b ∷ bs) =
    let ih : total (branch_need plain frames each) bs ≡ each * length bs + total (block_need plain frames) bs = branches_apart plain frames each bs in
    let step : each * suc (length bs) ≡ each + each * length bs = omega arith in
    omega (arith, ih, step)

pub need_of_par_parts : (plain : Bool) (frames : List ℕ) (kind : _) (slot : ℕ) (bs : List KBlock) → stmt_need plain frames (k.Par kind slot bs) ≡ branch_size kind * length bs + total (block_need plain frames) bs
need_of_par_parts plain frames kind slot bs = need_of_par plain frames kind slot bs ∙ branches_apart plain frames (branch_size kind) bs

pub ruleset placed = (places_of_nothing, places_of_assign, places_of_out, places_of_emit, places_of_await_in, places_of_await_time, places_of_await_event, places_of_forever, places_of_spawn, places_of_kill, places_of_unset, places_of_finalize, places_of_escape, places_of_break, places_of_continue, places_of_async, places_of_do, places_of_loop, places_of_await_code, places_of_block, places_of_arm, places_of_if, places_of_par, need_of_par_parts)
