-- What an event wakes costs the same by two tables that say the same of each event that a loop which it paces emits.
use Rattle.std.proofs.Common.{◌≡◌, refl, sym, ap, ◌∙◌, ℕ, ◌+◌, Bool, true, false, if◌then◌else◌, ◌==◌, List, [], ◌∷◌, ◌++◌, Option, Some, None, arith, eqb-true}
use Rattle.std.specs.List.{Contains}
use Rattle.std.proofs.lemmas.List.Elements.{Contains-append_left, Contains-append_right}
use Rattle.ceu_base.specs.declared.kinds.Pos.{Pos}
use Rattle.ceu_tree.specs.declared.kernel.Kernel.{Kernel}
use Rattle.ceu_tree.specs.declared.kernel.KCode.{KCode}
use Rattle.ceu_tree.specs.declared.kernel.KLoop.{KLoop}
use Rattle.ceu_tree.specs.declared.kernel.KBlock.{KBlock, KBlock', Row_of-KNode, end_of-KNode, more_of-KNode}
use Rattle.ceu_tree.specs.declared.kernel.KArm.{KArm, KArm'}
use Rattle.ceu_tree.specs.declared.kernel.KStmt.{KStmt, Row_of-KArm, end_of-KArm, more_of-KArm, Row_of-KBlock, end_of-KBlock, more_of-KBlock, Do, If', Loop, Par'}
use Rattle.ceu_tree.specs.Costs.{Cost, cost, nothing, plus, times, paced, is_event, is_owner, body_cost, loop_woken, woken, woken_block, woken_arm, woken_nodes, woken_arms, woken_blocks, woken_codes}
use Rattle.ceu_paths.specs.Emits.{block_emits}
use Rattle.ceu_paths.specs.Joined.{joined}
use Rattle.ceu_paths.specs.Loops.{TrailLoop, trail_loop, loops, block_loops, arm_loops, nodes_loops, arms_loops, blocks_loops}
use Rattle.laws_bounds_tables.proofs.Calm.{Agree, paced_calm}

-- two tables say the same of each event that such a loop emits, where the event paces it
abbrev pub AgreeAfter : List Cost → List Cost → ℕ → List TrailLoop → Type 0
AgreeAfter E F e ls = (l : TrailLoop) → Contains ls l → paced l.kind l.body ≡ Some e → Agree E F (block_emits l.body)

pub after_left : (E F : List Cost) (e : ℕ) (ls more : List TrailLoop) → AgreeAfter E F e (ls ++ more) → AgreeAfter E F e ls
after_left E F e ls more a l c = a l (Contains-append_left ls more l c)

pub after_right : (E F : List Cost) (e : ℕ) (ls more : List TrailLoop) → AgreeAfter E F e (ls ++ more) → AgreeAfter E F e more
after_right E F e ls more a l c = a l (Contains-append_right ls more l c)

module _ (P : List Bool) (E F N M : List Cost) (e : ℕ) where
  loop_wakes : (turns : KLoop) (b : KBlock) → (paced turns b ≡ Some e → Agree E F (block_emits b)) → loop_woken P E N e turns b ≡ loop_woken P F M e turns b
  loop_wakes turns b a = go (paced turns b) refl
    where
      held : (f : ℕ) (t : Bool) → paced turns b ≡ Some f → (e == f) ≡ t → (if t then plus (cost 1 0) (body_cost P E N b) else nothing) ≡ (if t then plus (cost 1 0) (body_cost P F M b) else nothing)
      held f false h q = refl
      held f true h q = let here : paced turns b ≡ Some e = h ∙ ap Some (sym (eqb-true e f q)) in ap (plus (cost 1 0)) (paced_calm P E F N M turns b e here (a here))

      go : (o : Option ℕ) → paced turns b ≡ o → (if is_event e o then plus (cost 1 0) (body_cost P E N b) else nothing) ≡ (if is_event e o then plus (cost 1 0) (body_cost P F M b) else nothing)
      go None h = refl
      go (Some f) h = held f (e == f) h refl

  mutual
    unfolding woken loops

    stmt_wakes : (n : ℕ) (p : Pos) (s : KStmt) → AgreeAfter E F e (loops n p s) → woken P E N e s ≡ woken P F M e s
    stmt_wakes n p (Do t b) a = block_wakes b a
    stmt_wakes n p (If' _ arms last) a =
        ap (λ x. plus x (woken_block P E N e last)) (arms_wake arms (after_left E F e (arms_loops arms) (block_loops last) a)) ∙ ap (plus (woken_arms P F M e arms)) (block_wakes last (after_right E F e (arms_loops arms) (block_loops last) a))
    stmt_wakes n p (Par' par slot _ bs) a = blocks_wake bs a
    stmt_wakes n p (Loop turns b) a =
        let l = trail_loop n p turns b in
        ap (λ x. plus x (woken_block P E N e b)) (loop_wakes turns b (a l (0, omega arith, refl))) ∙ ap (plus (loop_woken P F M e turns b)) (block_wakes b (after_right E F e (l ∷ []) (block_loops b) a))
    stmt_wakes n p _ a = refl

    pub block_wakes : (b : KBlock) → AgreeAfter E F e (block_loops b) → woken_block P E N e b ≡ woken_block P F M e b
    block_wakes (KBlock' n ds _ list) a = nodes_wake list a

    arm_wakes : (x : KArm) → AgreeAfter E F e (arm_loops x) → woken_arm P E N e x ≡ woken_arm P F M e x
    arm_wakes (KArm' c b) a = block_wakes b a

    nodes_wake : {n : _} (r : Row_of-KNode n) → AgreeAfter E F e (nodes_loops r) → woken_nodes P E N e r ≡ woken_nodes P F M e r
    nodes_wake end_of-KNode a = refl
    nodes_wake (more_of-KNode n p s rest) a =
        ap (λ x. plus x (woken_nodes P E N e rest)) (stmt_wakes n p s (after_left E F e (loops n p s) (nodes_loops rest) a)) ∙ ap (plus (woken P F M e s)) (nodes_wake rest (after_right E F e (loops n p s) (nodes_loops rest) a))

    arms_wake : {n : _} (r : Row_of-KArm n) → AgreeAfter E F e (arms_loops r) → woken_arms P E N e r ≡ woken_arms P F M e r
    arms_wake end_of-KArm a = refl
    arms_wake (more_of-KArm x rest) a =
        ap (λ y. plus y (woken_arms P E N e rest)) (arm_wakes x (after_left E F e (arm_loops x) (arms_loops rest) a)) ∙ ap (plus (woken_arm P F M e x)) (arms_wake rest (after_right E F e (arm_loops x) (arms_loops rest) a))

    blocks_wake : {n : _} (r : Row_of-KBlock n) → AgreeAfter E F e (blocks_loops r) → woken_blocks P E N e r ≡ woken_blocks P F M e r
    blocks_wake end_of-KBlock a = refl
    blocks_wake (more_of-KBlock b rest) a =
        ap (λ y. plus y (woken_blocks P E N e rest)) (block_wakes b (after_left E F e (block_loops b) (blocks_loops rest) a)) ∙ ap (plus (woken_block P F M e b)) (blocks_wake rest (after_right E F e (block_loops b) (blocks_loops rest) a))

  codes_wake : (own : Option ℕ) (k : ℕ) (cs : List KCode) (ns : List ℕ) → AgreeAfter E F e (joined (λ (c : KCode). block_loops c.body) cs) → woken_codes P E N e own k cs ns ≡ woken_codes P F M e own k cs ns
  codes_wake own k [] ns a = refl
  codes_wake own k (c ∷ cs) [] a = refl
  codes_wake own k (c ∷ cs) (n ∷ ns) a =
      let later = joined (λ (x : KCode). block_loops x.body) cs in
      ap (λ x. plus (times (if is_owner k own then 1 else n) x) (woken_codes P E N e own (k + 1) cs ns)) (block_wakes c.body (after_left E F e (block_loops c.body) later a)) ∙
      ap (plus (times (if is_owner k own then 1 else n) (woken_block P F M e c.body))) (codes_wake own (k + 1) cs ns (after_right E F e (block_loops c.body) later a))

  pub emission_wakes : (K : Kernel) (own : Option ℕ) (I : List ℕ) → AgreeAfter E F e (block_loops K.body ++ joined (λ (c : KCode). block_loops c.body) K.codes) →
      plus (cost 1 1) (plus (woken_block P E N e K.body) (woken_codes P E N e own 0 K.codes I)) ≡ plus (cost 1 1) (plus (woken_block P F M e K.body) (woken_codes P F M e own 0 K.codes I))
  emission_wakes K own I a =
      let later = joined (λ (c : KCode). block_loops c.body) K.codes in
      ap (λ x. plus (cost 1 1) (plus x (woken_codes P E N e own 0 K.codes I))) (block_wakes K.body (after_left E F e (block_loops K.body) later a)) ∙
      ap (λ x. plus (cost 1 1) (plus (woken_block P F M e K.body) x)) (codes_wake own 0 K.codes I (after_right E F e (block_loops K.body) later a))
