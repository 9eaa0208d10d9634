-- No statement of a program of one trail stands in an async.
use Rattle.std.proofs.Common.{◌≡◌, refl, ap, ◌∙◌, ℕ, Bool, true, false, ◌||◌}
use Rattle.std.proofs.lemmas.Bool.{and_parts, false≢true}
use Rattle.ceu_tree.specs.declared.kernel.Kernel.{Kernel}
use Rattle.ceu_tree.specs.declared.kernel.KArm.{KArm'}
use Rattle.ceu_tree.specs.declared.kernel.KBlock.{KBlock, KBlock', Row_of-KNode, end_of-KNode, more_of-KNode}
use Rattle.ceu_tree.specs.declared.kernel.KStmt.{KStmt, Row_of-KArm, end_of-KArm, more_of-KArm, Nothing, Assign, Out, AwaitIn, AwaitTime, Forever, Do, Escape, Break, Continue, If', Loop}
use Rattle.ceu_shape.specs.Searches.{stmt_async, block_async, arm_async, nodes_async, arms_async, codes_async, stands_in_async}
use Rattle.ceu_single.specs.Single.{stmt_single, block_single, arm_single, nodes_single, arms_single, Single}
use Rattle.ceu_trail.proofs.Singles.{no_code, body_single, last_holds}

neither : (a b : Bool) → a ≡ false → b ≡ false → (a || b) ≡ false
neither a b p q = ap (λ (x : Bool). x || b) p ∙ q

module _ (node : ℕ) where
  mutual
    unfolding stmt_async block_async arm_async nodes_async arms_async stmt_single block_single arm_single nodes_single arms_single

    stmt_outside : (s : KStmt) → stmt_single s ≡ true → stmt_async node false s ≡ false
    stmt_outside Nothing h = refl
    stmt_outside (Assign l e) h = refl
    stmt_outside (Out k e) h = refl
    stmt_outside (AwaitIn k t) h = refl
    stmt_outside (AwaitTime e u t) h = refl
    stmt_outside Forever h = refl
    stmt_outside (Do t b) h = block_outside b h
    stmt_outside (Escape n e) h = refl
    stmt_outside (Break n) h = refl
    stmt_outside (Continue n) h = refl
    stmt_outside (If' _ arms last) h = let a = and_parts (arms_single arms) (block_single last) h in neither _ _ (arms_outside arms a.0) (block_outside last a.1)
    stmt_outside (Loop k b) h = block_outside b h
    stmt_outside s h = absurd (false≢true h)

    block_outside : (b : KBlock) → block_single b ≡ true → block_async node false b ≡ false
    block_outside (KBlock' n ds _ list) h = nodes_outside list (last_holds _ _ h)

    nodes_outside : {n : _} → (rows : Row_of-KNode n) → nodes_single rows ≡ true → nodes_async node false rows ≡ false
    nodes_outside end_of-KNode h = refl
    nodes_outside (more_of-KNode n p s rest) h = let a = and_parts (stmt_single s) (nodes_single rest) h in neither _ _ (stmt_outside s a.0) (nodes_outside rest a.1)

    arms_outside : {n : _} → (rows : Row_of-KArm n) → arms_single rows ≡ true → arms_async node false rows ≡ false
    arms_outside end_of-KArm h = refl
    arms_outside (more_of-KArm (KArm' c b) rest) h = let a = and_parts (block_single b) (arms_single rest) h in neither _ _ (block_outside b a.0) (arms_outside rest a.1)

pub no_async : (K : Kernel) (node : ℕ) → Single K → stands_in_async K node ≡ false
unfolding stands_in_async
no_async K node h = neither _ _ (block_outside node K.body (body_single K h)) (ap (codes_async node) (no_code K h))
