-- What a body that uses only codes below one enters, by tables that agree on those.
use Rattle.std.proofs.Common.{◌≡◌, refl, sym, ap, ◌∙◌, ◌<◌, ℕ, Bool, true, if◌then◌else◌, List, [], Some}
use Rattle.ceu_tree.specs.declared.kernel.Kernel.{Kernel}
use Rattle.ceu_tree.specs.declared.kernel.KCode.{KCode}
use Rattle.ceu_tree.specs.declared.kernel.KBlock.{KBlock, KBlock', Row_of-KNode, end_of-KNode, more_of-KNode}
use Rattle.ceu_tree.specs.declared.kernel.KArm.{KArm, KArm'}
use Rattle.ceu_tree.specs.declared.kernel.KStmt.{KStmt, Row_of-KArm, end_of-KArm, more_of-KArm, Row_of-KBlock, end_of-KBlock, more_of-KBlock, AwaitCode, Spawn, Do, If', Loop, Par'}
use Rattle.ceu_tree.specs.Leaf.{code_at}
use Rattle.ceu_tree.specs.Proper.{is_proper}
use Rattle.ceu_tree.specs.Paths.{has_end, quick}
use Rattle.ceu_tree.specs.Costs.{Cost, cost, plus, most, cost_at, without_one, loop_enter, enter, enter_block, enter_arm, enter_nodes, enter_arms, enter_blocks, enters_from}
use Rattle.laws_bounds_tables.specs.Below.{stmt_below, block_below, arm_below, nodes_below, arms_below, blocks_below}
use Rattle.laws_bounds_tables.proofs.Above.{body_below}
use Rattle.laws_bounds_tables.proofs.Rows.{cost_is, enters_made}

module _ (P : List Bool) (E : List Cost) (k : ℕ) (N M : List Cost) (agree : (c : ℕ) → c < k → cost_at c N ≡ cost_at c M) where
  mutual
    unfolding enter stmt_below

    stmt_enters : (n : ℕ) (s : KStmt) → stmt_below k s → enter P E N n s ≡ enter P E M n s
    stmt_enters n (AwaitCode c es f t) h = agree c h
    stmt_enters n (Spawn c es p a) h = ap (plus (cost 2 1)) (agree c h)
    stmt_enters n (Do t b) h = block_enters b h
    stmt_enters n (If' _ arms last) h = ap (λ x. most x (enter_block P E N last)) (arms_enter arms h.0) ∙ ap (most (enter_arms P E M arms)) (block_enters last h.1)
    stmt_enters n (Par' par slot _ bs) h = ap without_one (blocks_enter bs h)
    stmt_enters n (Loop turns b) h = ap (loop_enter P n turns b) (block_enters b h)
    stmt_enters n _ h = refl

    pub block_enters : (b : KBlock) → block_below k b → enter_block P E N b ≡ enter_block P E M b
    block_enters (KBlock' n ds _ list) h = nodes_enter list h.1

    arm_enters : (a : KArm) → arm_below k a → enter_arm P E N a ≡ enter_arm P E M a
    arm_enters (KArm' c b) h = block_enters b h

    pub nodes_enter : {n : _} (r : Row_of-KNode n) → nodes_below k r → enter_nodes P E N r ≡ enter_nodes P E M r
    nodes_enter end_of-KNode h = refl
    nodes_enter (more_of-KNode n p s rest) h =
        ap (λ x. if has_end (quick P n s) then plus x (enter_nodes P E N rest) else x) (stmt_enters n s h.0) ∙
        ap (λ x. if has_end (quick P n s) then plus (enter P E M n s) x else enter P E M n s) (nodes_enter rest h.1)

    arms_enter : {n : _} (r : Row_of-KArm n) → arms_below k r → enter_arms P E N r ≡ enter_arms P E M r
    arms_enter end_of-KArm h = refl
    arms_enter (more_of-KArm a rest) h = ap (λ x. most x (enter_arms P E N rest)) (arm_enters a h.0) ∙ ap (most (enter_arm P E M a)) (arms_enter rest h.1)

    blocks_enter : {n : _} (r : Row_of-KBlock n) → blocks_below k r → enter_blocks P E N r ≡ enter_blocks P E M r
    blocks_enter end_of-KBlock h = refl
    blocks_enter (more_of-KBlock b rest) h =
        ap (λ x. plus (plus (cost 1 0) x) (enter_blocks P E N rest)) (block_enters b h.0) ∙ ap (plus (plus (cost 1 0) (enter_block P E M b))) (blocks_enter rest h.1)

pub enters_agree : (K : Kernel) (P : List Bool) (E : List Cost) (c : ℕ) (k : KCode) → is_proper K ≡ true → code_at c K.codes ≡ Some k → cost_at c (enters_from P E [] K.codes) ≡ enter_block P E (enters_from P E [] K.codes) k.body
enters_agree K P E c k proper e =
    let m = enters_made P E K.codes c k e in
    let same = λ (j : ℕ) (h : j < c). cost_is j m.before ∙ m.same j h ∙ sym (cost_is j (enters_from P E [] K.codes)) in
    cost_is c (enters_from P E [] K.codes) ∙ m.here ∙ block_enters P E c m.before (enters_from P E [] K.codes) same k.body (body_below K c k proper e)
