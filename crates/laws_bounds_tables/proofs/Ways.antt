-- The ways of a body that uses only codes below one, by tables that agree on those.
use Rattle.std.proofs.Common.{◌≡◌, refl, sym, ap, ◌∙◌, ◌<◌, ℕ, Bool, true, ◌&&◌, ◌||◌, List, [], ◌++◌, Some}
use Rattle.std.specs.List.{list_any}
use Rattle.ceu_tree.specs.declared.kernel.Kernel.{Kernel}
use Rattle.ceu_tree.specs.declared.kernel.KCode.{KCode}
use Rattle.ceu_tree.specs.declared.kernel.KBlock.{KBlock, KBlock', out-KBlock, Row_of-KNode, end_of-KNode, more_of-KNode}
use Rattle.ceu_tree.specs.declared.kernel.KArm.{KArm, KArm'}
use Rattle.ceu_tree.specs.declared.kernel.KStmt.{KStmt, Row_of-KArm, end_of-KArm, more_of-KArm, Row_of-KBlock, end_of-KBlock, more_of-KBlock, AwaitCode, Do, If', Loop, Par'}
use Rattle.ceu_tree.specs.Leaf.{code_at}
use Rattle.ceu_tree.specs.Proper.{is_proper}
use Rattle.ceu_tree.specs.Paths.{has_end, is_escape, end_if, flag, seq_ways, do_ways, par_ways, loop_ways, quick, quick_block, quick_arm, quick_nodes, quick_arms, quick_blocks, all_end, passes, passes_from}
use Rattle.laws_bounds_tables.specs.Below.{stmt_below, block_below, arm_below, nodes_below, arms_below, blocks_below}
use Rattle.laws_bounds_tables.proofs.Above.{body_below}
use Rattle.laws_bounds_tables.proofs.Rows.{flag_is, passes_made}

module _ (k : ℕ) (A B : List Bool) (agree : (c : ℕ) → c < k → flag c A ≡ flag c B) where
  mutual
    unfolding quick stmt_below

    stmt_ways : (n : ℕ) (s : KStmt) → stmt_below k s → quick A n s ≡ quick B n s
    stmt_ways n (AwaitCode c es f t) h = ap end_if (agree c h)
    stmt_ways n (Do t b) h = ap (do_ways n) (block_ways b h)
    stmt_ways n (If' _ arms last) h = ap (λ q. q ++ quick_block A last) (arms_ways arms h.0) ∙ ap (λ q. quick_arms B arms ++ q) (block_ways last h.1)
    stmt_ways n (Loop turns b) h = ap (loop_ways n turns) (block_ways b h)
    stmt_ways n (Par' par slot _ bs) h = ap (λ q. par_ways par q (all_end A bs)) (blocks_ways bs h) ∙ ap (par_ways par (quick_blocks B bs)) (blocks_end bs h)
    stmt_ways n _ h = refl

    pub block_ways : (b : KBlock) → block_below k b → quick_block A b ≡ quick_block B b
    block_ways (KBlock' n ds _ list) h = nodes_ways list h.1

    arm_ways : (a : KArm) → arm_below k a → quick_arm A a ≡ quick_arm B a
    arm_ways (KArm' c b) h = block_ways b h

    nodes_ways : {n : _} (r : Row_of-KNode n) → nodes_below k r → quick_nodes A r ≡ quick_nodes B r
    nodes_ways end_of-KNode h = refl
    nodes_ways (more_of-KNode n p s rest) h = ap (λ q. seq_ways q (quick_nodes A rest)) (stmt_ways n s h.0) ∙ ap (seq_ways (quick B n s)) (nodes_ways rest h.1)

    arms_ways : {n : _} (r : Row_of-KArm n) → arms_below k r → quick_arms A r ≡ quick_arms B r
    arms_ways end_of-KArm h = refl
    arms_ways (more_of-KArm a rest) h = ap (λ q. q ++ quick_arms A rest) (arm_ways a h.0) ∙ ap (λ q. quick_arm B a ++ q) (arms_ways rest h.1)

    blocks_ways : {n : _} (r : Row_of-KBlock n) → blocks_below k r → quick_blocks A r ≡ quick_blocks B r
    blocks_ways end_of-KBlock h = refl
    blocks_ways (more_of-KBlock b rest) h = ap (λ q. q ++ quick_blocks A rest) (block_ways b h.0) ∙ ap (λ q. quick_block B b ++ q) (blocks_ways rest h.1)

    blocks_end : {n : _} (r : Row_of-KBlock n) → blocks_below k r → all_end A r ≡ all_end B r
    blocks_end end_of-KBlock h = refl
    blocks_end (more_of-KBlock b rest) h = ap (λ q. has_end q && all_end A rest) (block_ways b h.0) ∙ ap (λ t. has_end (quick_block B b) && t) (blocks_end rest h.1)

pub passes_agree : (K : Kernel) (c : ℕ) (k : KCode) → is_proper K ≡ true → code_at c K.codes ≡ Some k → flag c (passes_from [] K.codes) ≡ passes (passes_from [] K.codes) k
passes_agree K c k proper e =
    let m = passes_made K.codes c k e in
    let same = λ (j : ℕ) (h : j < c). flag_is j m.before ∙ m.same j h ∙ sym (flag_is j (passes_from [] K.codes)) in
    flag_is c (passes_from [] K.codes) ∙ m.here ∙
    ap (λ q. has_end q || list_any (is_escape (out-KBlock k.body).node) q) (block_ways c m.before (passes_from [] K.codes) same k.body (body_below K c k proper e))
