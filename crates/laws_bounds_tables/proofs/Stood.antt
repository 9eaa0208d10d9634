-- What a body that uses only codes below one costs where it stood waiting, by tables that agree on those.
use Rattle.std.proofs.Common.{◌≡◌, refl, sym, ap, ◌∙◌, ◌<◌, ℕ, Bool, true, if◌then◌else◌, List, [], ◌∷◌, Some}
use Rattle.ceu_tree.specs.declared.kernel.Kernel.{Kernel}
use Rattle.ceu_tree.specs.declared.kernel.KCode.{KCode}
use Rattle.ceu_tree.specs.declared.kernel.KDecl.{KDecl}
use Rattle.ceu_tree.specs.declared.kernel.KKind.{KKind}
use Rattle.ceu_tree.specs.declared.kernel.KKind.TheVariants as kind
use Rattle.ceu_tree.specs.declared.kernel.KBlock.{KBlock, KBlock', Row_of-KNode, end_of-KNode, more_of-KNode}
use Rattle.ceu_tree.specs.declared.kernel.KArm.{KArm, KArm'}
use Rattle.ceu_tree.specs.declared.kernel.KStmt.{KStmt, Row_of-KArm, end_of-KArm, more_of-KArm, Row_of-KBlock, end_of-KBlock, more_of-KBlock, AwaitCode, Do, If', Loop, Par'}
use Rattle.ceu_tree.specs.Leaf.{code_at}
use Rattle.ceu_tree.specs.Proper.{is_proper}
use Rattle.ceu_tree.specs.Costs.{Cost, plus, times, most, cost_at, enter_block, enter_nodes, stands_waiting, pools_stay, loop_stay, stay, stay_block, stay_arm, stay_nodes, stay_arms, stay_blocks, stays_from}
use Rattle.laws_bounds_tables.specs.Below.{kind_below, decls_below, stmt_below, block_below, arm_below, nodes_below, arms_below, blocks_below}
use Rattle.laws_bounds_tables.proofs.Above.{body_below}
use Rattle.laws_bounds_tables.proofs.Rows.{cost_is, stays_made}

module _ (P : List Bool) (E N : List Cost) (k : ℕ) (S R : List Cost) (agree : (c : ℕ) → c < k → cost_at c S ≡ cost_at c R) where
  pool_stays : (kd : KKind) (a b : Cost) → kind_below k kd → a ≡ b →
      (elim kd as (λ _. Cost) [ kind.Var t ↦ a | kind.Alias c ↦ a | kind.Pool n c ↦ plus (times n (cost_at c S)) a ]) ≡ (elim kd as (λ _. Cost) [ kind.Var t ↦ b | kind.Alias c ↦ b | kind.Pool n c ↦ plus (times n (cost_at c R)) b ])
  pool_stays (kind.Var t) a b h e = e
  pool_stays (kind.Alias c) a b h e = e
  pool_stays (kind.Pool n c) a b h e = ap (λ x. plus (times n x) a) (agree c h) ∙ ap (plus (times n (cost_at c R))) e

  pools_are : (ds : List KDecl) → decls_below k ds → pools_stay P E N S ds ≡ pools_stay P E N R ds
  pools_are [] h = refl
  pools_are (d ∷ ds) h = pool_stays d.kind (pools_stay P E N S ds) (pools_stay P E N R ds) h.0 (pools_are ds h.1)

  mutual
    unfolding stay stmt_below

    stmt_stays : (n : ℕ) (s : KStmt) → stmt_below k s → stay P E N S n s ≡ stay P E N R n s
    stmt_stays n (AwaitCode c es f t) h = agree c h
    stmt_stays n (Do t b) h = block_stays b h
    stmt_stays n (If' _ arms last) h = ap (λ x. most x (stay_block P E N S last)) (arms_stay arms h.0) ∙ ap (most (stay_arms P E N R arms)) (block_stays last h.1)
    stmt_stays n (Par' par slot _ bs) h = blocks_stay bs h
    stmt_stays n (Loop turns b) h = ap (λ x. loop_stay P n turns b x (enter_block P E N b)) (block_stays b h)
    stmt_stays n _ h = refl

    pub block_stays : (b : KBlock) → block_below k b → stay_block P E N S b ≡ stay_block P E N R b
    block_stays (KBlock' n ds _ list) h = ap (λ x. plus x (stay_nodes P E N S list)) (pools_are ds h.0) ∙ ap (plus (pools_stay P E N R ds)) (nodes_stay list h.1)

    arm_stays : (a : KArm) → arm_below k a → stay_arm P E N S a ≡ stay_arm P E N R a
    arm_stays (KArm' c b) h = block_stays b h

    pub nodes_stay : {n : _} (r : Row_of-KNode n) → nodes_below k r → stay_nodes P E N S r ≡ stay_nodes P E N R r
    nodes_stay end_of-KNode h = refl
    nodes_stay (more_of-KNode n p s rest) h =
        ap (λ x. if stands_waiting s then most (plus x (enter_nodes P E N rest)) (stay_nodes P E N S rest) else stay_nodes P E N S rest) (stmt_stays n s h.0) ∙
        ap (λ x. if stands_waiting s then most (plus (stay P E N R n s) (enter_nodes P E N rest)) x else x) (nodes_stay rest h.1)

    arms_stay : {n : _} (r : Row_of-KArm n) → arms_below k r → stay_arms P E N S r ≡ stay_arms P E N R r
    arms_stay end_of-KArm h = refl
    arms_stay (more_of-KArm a rest) h = ap (λ x. most x (stay_arms P E N S rest)) (arm_stays a h.0) ∙ ap (most (stay_arm P E N R a)) (arms_stay rest h.1)

    blocks_stay : {n : _} (r : Row_of-KBlock n) → blocks_below k r → stay_blocks P E N S r ≡ stay_blocks P E N R r
    blocks_stay end_of-KBlock h = refl
    blocks_stay (more_of-KBlock b rest) h = ap (λ x. plus x (stay_blocks P E N S rest)) (block_stays b h.0) ∙ ap (plus (stay_block P E N R b)) (blocks_stay rest h.1)

pub stays_agree : (K : Kernel) (P : List Bool) (E N : List Cost) (c : ℕ) (k : KCode) → is_proper K ≡ true → code_at c K.codes ≡ Some k → cost_at c (stays_from P E N [] K.codes) ≡ stay_block P E N (stays_from P E N [] K.codes) k.body
stays_agree K P E N c k proper e =
    let m = stays_made P E N K.codes c k e in
    let same = λ (j : ℕ) (h : j < c). cost_is j m.before ∙ m.same j h ∙ sym (cost_is j (stays_from P E N [] K.codes)) in
    cost_is c (stays_from P E N [] K.codes) ∙ m.here ∙ block_stays P E N c m.before (stays_from P E N [] K.codes) same k.body (body_below K c k proper e)
