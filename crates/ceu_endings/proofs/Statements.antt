-- From the start of each statement of a program of one trail the turn comes to one of the statement's ways, in no more steps than the statement costs.
use Rattle.std.proofs.Common.{refl, sym, subst, ◌≤◌, ℕ, suc, ◌+◌, ◌*◌, List, [], ◌∷◌, ◌++◌, inl, arith}
use Rattle.ceu_tree.specs.declared.kernel.Kernel.{Kernel}
use Rattle.ceu_tree.specs.declared.kernel.KArm.{KArm, KArm', out-KArm}
use Rattle.ceu_tree.specs.declared.kernel.KBlock.{KBlock, KBlock', out-KBlock, Row_of-KNode, end_of-KNode, more_of-KNode, items-the_row-KNode, items_shown-the_row-KNode-2}
use Rattle.ceu_tree.specs.declared.kernel.KStmt.{KStmt, out-KStmt, Row_of-KArm, end_of-KArm, more_of-KArm, items-the_row-KArm, items_shown-the_row-KArm-0, Nothing, Assign, Out, AwaitIn, AwaitTime, Forever, Do, Escape, Break, Continue, If', Loop}
use Rattle.ceu_tree.specs.Residual.{Start}
use Rattle.ceu_tree.specs.Focus.{Here}
use Rattle.ceu_tree.specs.Around.{up}
use Rattle.ceu_tree.specs.Expressions.{value_of, value_if}
use Rattle.ceu_tree.specs.Paths.{Way, constant_bound, quick, quick_block, quick_arm, quick_arms}
use Rattle.ceu_tree.specs.Proper.{Aim, LoopAim, do_aim}
use Rattle.ceu_endings.proofs.Local.{halts_weaker}
use Rattle.ceu_endings.proofs.Among.{Among, among_left, among_right}
use Rattle.ceu_endings.proofs.Fine.{stmt_fine, block_fine, arm_fine, nodes_fine, arms_fine, stmt_cost, block_cost, arm_cost, arms_cost, block_cost_is, turns_at_most}
use Rattle.ceu_endings.proofs.Opened.{StmtHalts, EachHalts}
use Rattle.ceu_endings.proofs.Starts.{block_halts, start_halts, or_settles, do_settles, ArmHalts, EachArm, if_settles, loop_starts}
use denote.Hole.Carrier

module _ (K : Kernel) (level : ℕ) where
  mutual
    unfolding stmt_fine stmt_cost quick up out-KStmt out-KBlock out-KArm Carrier.out

    pub stmt_halts : (aims : List Aim) (n : ℕ) (p : _) (st : KStmt) → stmt_fine K aims n st → StmtHalts K level aims (record { node = n; pos = p; stmt = st })
    stmt_halts aims n p Nothing h body w = start_halts K level _ body 0 _ _ w refl (inl refl)
    stmt_halts aims n p (Assign l e) h body w = start_halts K level _ body 0 _ _ w refl (or_settles K level _ body 0 (Here (Start (record { node = n; pos = p; stmt = Assign l e }))) (value_of e body w) w _ (λ z. tt) (λ x z. inl refl))
    stmt_halts aims n p (Out k e) h body w = start_halts K level _ body 0 _ _ w refl (or_settles K level _ body 0 (Here (Start (record { node = n; pos = p; stmt = Out k e }))) (value_if e body w) w _ (λ z. tt) (λ x z. inl refl))
    stmt_halts aims n p (AwaitIn k t) h body w = start_halts K level _ body 0 _ _ w refl tt
    stmt_halts aims n p (AwaitTime e u t) h body w = start_halts K level _ body 0 _ _ w refl (or_settles K level _ body 0 (Here (Start (record { node = n; pos = p; stmt = AwaitTime e u t }))) (value_of e body w) w _ (λ z. tt) (λ x z. tt))
    stmt_halts aims n p Forever h body w = start_halts K level _ body 0 _ _ w refl tt
    stmt_halts aims n p (Do t b) h body w = start_halts K level _ body (block_cost b) _ _ w refl (do_settles K level _ t b aims body w h.0 (block_halts K level (do_aim K n t ∷ aims) b h.1 (block_each (do_aim K n t ∷ aims) b h.2)))
    stmt_halts aims n p (Escape m e) h body w = start_halts K level _ body 0 _ _ w refl (or_settles K level _ body 0 (Here (Start (record { node = n; pos = p; stmt = Escape m e }))) (value_if e body w) w _ (λ z. tt) (λ x z. (inl refl, h x)))
    stmt_halts aims n p (Break m) h body w = start_halts K level _ body 0 _ _ w refl (inl refl, h)
    stmt_halts aims n p (Continue m) h body w = start_halts K level _ body 0 _ _ w refl (inl refl, h)
    stmt_halts aims n p (If' x arms last) h body w = start_halts K level _ body (arms_cost arms + block_cost last) _ _ w refl
        (if_settles K level _ _ (arms_cost arms + block_cost last) aims h.0 body w _ last
        (subst (EachArm K level (quick_arms [] arms ++ quick_block [] last) (arms_cost arms + block_cost last) aims) (sym (items_shown-the_row-KArm-0 x arms))
        (arms_each aims n (quick_arms [] arms ++ quick_block [] last) (arms_cost arms + block_cost last) arms (λ y z. among_left y (quick_arms [] arms) (quick_block [] last) z) (omega arith) h.1))
        (record {
          halts = block_halts K level aims last h.2 (block_each aims last h.3);
          within = λ y z. among_right y (quick_arms [] arms) (quick_block [] last) z;
          costs = omega arith;
        }))
    stmt_halts aims n p (Loop k b) h body w =
        let one = block_cost_is b in
        let m = turns_at_most (constant_bound k) * suc (block_cost b) in
        halts_weaker K level _ _ body (suc (suc m)) _ _ w (omega (arith, one)) (λ y z. z)
        (start_halts K level _ body (suc m) _ _ w refl (loop_starts K level _ k b refl aims h.0 (block_halts K level (LoopAim n ∷ aims) b h.2 (block_each (LoopAim n ∷ aims) b h.3)) h.1 body w))
    stmt_halts aims n p st h body w = absurd h

    pub block_each : (aims : List Aim) (b : KBlock) → block_fine K aims b → EachHalts K level aims (out-KBlock b).list
    block_each aims (KBlock' n ds x list) h = subst (EachHalts K level aims) (sym (items_shown-the_row-KNode-2 x list)) (nodes_each aims list h)

    arm_each : (aims : List Aim) (n : ℕ) (q : List Way) (cost : ℕ) (a : KArm) → ((w : Way) → Among w (quick_arm [] a) → Among w q) → arm_cost a ≤ cost → arm_fine K aims n a → ArmHalts K level q cost aims (out-KArm a).body
    arm_each aims n q cost (KArm' c b) sub l h = record { halts = block_halts K level aims b h.0 (block_each aims b h.1); within = sub; costs = l }

    nodes_each : {n : _} (aims : List Aim) (rows : Row_of-KNode n) → nodes_fine K aims rows → EachHalts K level aims (items-the_row-KNode n rows)
    nodes_each aims end_of-KNode h = tt
    nodes_each aims (more_of-KNode n p s rest) h = (stmt_halts aims n p s h.0, nodes_each aims rest h.1)

    arms_each : {m : _} (aims : List Aim) (n : ℕ) (q : List Way) (cost : ℕ) (rows : Row_of-KArm m) → ((w : Way) → Among w (quick_arms [] rows) → Among w q) → arms_cost rows ≤ cost → arms_fine K aims n rows
        → EachArm K level q cost aims (items-the_row-KArm m rows)
    arms_each aims n q cost end_of-KArm sub l h = tt
    arms_each aims n q cost (more_of-KArm a rest) sub l h = (
      arm_each aims n q cost a (λ w z. sub w (among_left w (quick_arm [] a) (quick_arms [] rest) z)) (omega (arith, l)) h.0,
      arms_each aims n q cost rest (λ w z. sub w (among_right w (quick_arm [] a) (quick_arms [] rest) z)) (omega (arith, l)) h.1,
    )
