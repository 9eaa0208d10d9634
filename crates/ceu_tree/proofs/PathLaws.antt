-- One level of the ways on which a statement may be left at once.
use Rattle.std.proofs.Common.{◌≡◌, refl, sym, ap, ◌∙◌, ℕ, Bool, ◌&&◌, List, [], ◌∷◌, ◌++◌}
use Rattle.ceu_tree.specs.declared.kernel.KExp.{KExp}
use Rattle.ceu_tree.specs.declared.kernel.KArm.{KArm, KArm', out-KArm}
use Rattle.ceu_tree.specs.declared.kernel.KBlock.{KBlock, KBlock', out-KBlock, Row_of-KNode, end_of-KNode, more_of-KNode, items-the_row-KNode, items_shown-the_row-KNode-2}
use Rattle.ceu_tree.specs.declared.kernel.KStmt as k
use Rattle.ceu_tree.specs.declared.kernel.KStmt.{KStmt, out-KStmt, Row_of-KArm, end_of-KArm, more_of-KArm, items-the_row-KArm, items_hidden-the_row-KArm-0, items_hidden-the_row-KBlock-1, Row_of-KBlock, end_of-KBlock, more_of-KBlock, items-the_row-KBlock}
use Rattle.ceu_tree.specs.declared.kernel.KStmt.TheBlock.{hidden-the_row-KArm-0, hidden-the_row-KBlock-1}
use Rattle.ceu_tree.specs.Paths.{ToEnd, ToEscape, ToBreak, ToContinue, has_end, end_if, flag, do_ways, loop_ways, par_ways, seq_ways, gathered, all_blocks_end, quick, quick_block, quick_arm, quick_nodes, quick_arms, quick_blocks, all_end, quick_list}
use denote.Hole.Carrier

pub quick_of_nothing : (codes : List Bool) (node : ℕ) → quick codes node k.Nothing ≡ ToEnd ∷ []
unfolding quick
quick_of_nothing codes node = refl

pub quick_of_assign : (codes : List Bool) (node : ℕ) (l : _) (e : KExp) → quick codes node (k.Assign l e) ≡ ToEnd ∷ []
unfolding quick
quick_of_assign codes node l e = refl

pub quick_of_out : (codes : List Bool) (node : ℕ) (n : ℕ) (e : _) → quick codes node (k.Out n e) ≡ ToEnd ∷ []
unfolding quick
quick_of_out codes node n e = refl

pub quick_of_emit : (codes : List Bool) (node : ℕ) (n : ℕ) (e : _) → quick codes node (k.Emit n e) ≡ ToEnd ∷ []
unfolding quick
quick_of_emit codes node n e = refl

pub quick_of_await_in : (codes : List Bool) (node : ℕ) (n : ℕ) (t : _) → quick codes node (k.AwaitIn n t) ≡ []
unfolding quick
quick_of_await_in codes node n t = refl

pub quick_of_await_time : (codes : List Bool) (node : ℕ) (e : KExp) (u : _) (t : _) → quick codes node (k.AwaitTime e u t) ≡ []
unfolding quick
quick_of_await_time codes node e u t = refl

pub quick_of_await_event : (codes : List Bool) (node : ℕ) (n : ℕ) (t : _) → quick codes node (k.AwaitEvent n t) ≡ ToEnd ∷ []
unfolding quick
quick_of_await_event codes node n t = refl

pub quick_of_forever : (codes : List Bool) (node : ℕ) → quick codes node k.Forever ≡ []
unfolding quick
quick_of_forever codes node = refl

pub quick_of_await_code : (codes : List Bool) (node : ℕ) (c : ℕ) (es : List KExp) (f : ℕ) (t : _) → quick codes node (k.AwaitCode c es f t) ≡ end_if (flag c codes)
unfolding quick
quick_of_await_code codes node c es f t = refl

pub quick_of_spawn : (codes : List Bool) (node : ℕ) (c : ℕ) (es : List KExp) (p : ℕ) (a : _) → quick codes node (k.Spawn c es p a) ≡ ToEnd ∷ []
unfolding quick
quick_of_spawn codes node c es p a = refl

pub quick_of_kill : (codes : List Bool) (node : ℕ) (n : ℕ) → quick codes node (k.Kill n) ≡ ToEnd ∷ []
unfolding quick
quick_of_kill codes node n = refl

pub quick_of_unset : (codes : List Bool) (node : ℕ) (n : ℕ) → quick codes node (k.Unset n) ≡ ToEnd ∷ []
unfolding quick
quick_of_unset codes node n = refl

pub quick_of_async : (codes : List Bool) (node : ℕ) (b : KBlock) → quick codes node (k.Async b) ≡ []
unfolding quick
quick_of_async codes node b = refl

pub quick_of_finalize : (codes : List Bool) (node : ℕ) (b : KBlock) → quick codes node (k.Finalize b) ≡ ToEnd ∷ []
unfolding quick
quick_of_finalize codes node b = refl

pub quick_of_do : (codes : List Bool) (node : ℕ) (t : _) (b : KBlock) → quick codes node (k.Do t b) ≡ do_ways node (quick_block codes b)
unfolding quick
quick_of_do codes node t b = refl

pub quick_of_escape : (codes : List Bool) (node : ℕ) (n : ℕ) (e : _) → quick codes node (k.Escape n e) ≡ ToEscape n ∷ []
unfolding quick
quick_of_escape codes node n e = refl

pub quick_of_break : (codes : List Bool) (node : ℕ) (n : ℕ) → quick codes node (k.Break n) ≡ ToBreak n ∷ []
unfolding quick
quick_of_break codes node n = refl

pub quick_of_continue : (codes : List Bool) (node : ℕ) (n : ℕ) → quick codes node (k.Continue n) ≡ ToContinue n ∷ []
unfolding quick
quick_of_continue codes node n = refl

pub quick_of_loop : (codes : List Bool) (node : ℕ) (kind : _) (b : KBlock) → quick codes node (k.Loop kind b) ≡ loop_ways node kind (quick_block codes b)
unfolding quick
quick_of_loop codes node kind b = refl

quick_KNode_row : (codes : List Bool) {n : _} (r : Row_of-KNode n) → quick_nodes codes r ≡ quick_list codes (items-the_row-KNode n r)
unfolding quick
quick_KNode_row codes end_of-KNode = refl
quick_KNode_row codes (more_of-KNode n p s rest) = ap (λ k. seq_ways (quick codes n s) k) (quick_KNode_row codes rest)

quick_KArm_row : (codes : List Bool) {n : _} (r : Row_of-KArm n) → quick_arms codes r ≡ gathered (quick_arm codes) (items-the_row-KArm n r)
unfolding quick
quick_KArm_row codes end_of-KArm = refl
quick_KArm_row codes (more_of-KArm b rest) = ap (λ k. quick_arm codes b ++ k) (quick_KArm_row codes rest)

quick_KBlock_row : (codes : List Bool) {n : _} (r : Row_of-KBlock n) → quick_blocks codes r ≡ gathered (quick_block codes) (items-the_row-KBlock n r)
unfolding quick
quick_KBlock_row codes end_of-KBlock = refl
quick_KBlock_row codes (more_of-KBlock b rest) = ap (λ k. quick_block codes b ++ k) (quick_KBlock_row codes rest)

pub quick_of_block : (codes : List Bool) (b : KBlock) → quick_block codes b ≡ quick_list codes (out-KBlock b).list
unfolding quick out-KBlock Carrier.out
quick_of_block codes (KBlock' n ds x list) = ap (λ k. k) (quick_KNode_row codes list ∙ sym (ap (quick_list codes) (items_shown-the_row-KNode-2 x list)))

pub quick_of_arm : (codes : List Bool) (a : KArm) → quick_arm codes a ≡ quick_block codes (out-KArm a).body
unfolding quick out-KArm Carrier.out
quick_of_arm codes (KArm' c b) = refl

pub quick_of_if : (codes : List Bool) (node : ℕ) (arms : List KArm) (last : KBlock) → quick codes node (k.If arms last) ≡ gathered (quick_arm codes) arms ++ quick_block codes last
unfolding quick
quick_of_if codes node arms last = ap (λ k. k ++ quick_block codes last) (quick_KArm_row codes (hidden-the_row-KArm-0 arms) ∙ ap (gathered (quick_arm codes)) (items_hidden-the_row-KArm-0 arms))

ends_row : (codes : List Bool) {n : _} (r : Row_of-KBlock n) → all_end codes r ≡ all_blocks_end codes (items-the_row-KBlock n r)
unfolding quick
ends_row codes end_of-KBlock = refl
ends_row codes (more_of-KBlock b rest) = ap (λ k. has_end (quick_block codes b) && k) (ends_row codes rest)

pub quick_of_par : (codes : List Bool) (node : ℕ) (kind : _) (slot : ℕ) (bs : List KBlock) → quick codes node (k.Par kind slot bs) ≡ par_ways kind (gathered (quick_block codes) bs) (all_blocks_end codes bs)
unfolding quick
quick_of_par codes node kind slot bs =
    ap (λ k. par_ways kind k (all_end codes (hidden-the_row-KBlock-1 bs))) (quick_KBlock_row codes (hidden-the_row-KBlock-1 bs) ∙ ap (gathered (quick_block codes)) (items_hidden-the_row-KBlock-1 bs)) ∙
    ap (λ k. par_ways kind (gathered (quick_block codes) bs) k) (ends_row codes (hidden-the_row-KBlock-1 bs) ∙ ap (all_blocks_end codes) (items_hidden-the_row-KBlock-1 bs))

pub ruleset paths = (quick_of_nothing, quick_of_assign, quick_of_out, quick_of_emit, quick_of_await_in, quick_of_await_time, quick_of_await_event, quick_of_forever, quick_of_await_code, quick_of_spawn, quick_of_kill, quick_of_unset, quick_of_async, quick_of_finalize, quick_of_do, quick_of_escape, quick_of_break, quick_of_continue, quick_of_loop, quick_of_block, quick_of_arm, quick_of_if, quick_of_par)
