-- A value stays where a part is aborted that has no hold of its slot.
use Rattle.std.proofs.Common.{◌≡◌, refl, sym, ap, ◌∙◌, subst, ◌≤◌, ℕ, ◌+◌, Bool, true, false, if◌then◌else◌, ◌==◌, List, [], ◌∷◌, is_some, arith, eqb-true}
use Rattle.ceu_tree.specs.declared.kernel.KCode.{KCode}
use Rattle.ceu_tree.specs.declared.kernel.KDecl.{KDecl}
use Rattle.ceu_tree.specs.declared.kernel.KNode.{KNode}
use Rattle.ceu_tree.specs.declared.kernel.KBlock.{KBlock, out-KBlock}
use Rattle.ceu_tree.specs.declared.kernel.KStmt.{out-KStmt}
use Rattle.ceu_tree.specs.Residual.{Body, Awaited, Spawned, same_body, Act, Residual, Over, Run, WaitInput, WaitTime, WaitEvent, WaitForever, InAsync, Block, Open, Loop, Call, Par, Branches, no_branch, branch, Instances, no_instance, instance}
use Rattle.ceu_tree.specs.Focus.{Frame, OfBlock, OfInstance, OfOpen, OfLoop, OfCall, OfPar, Focus, Here, In, plug, body_in}
use Rattle.ceu_tree.specs.World.{World, forget_declared, forget_body, dead}
use Rattle.ceu_tree.specs.Abort.{finalized, forget_loop, aborted, branches_aborted, instances_aborted, closed}
use Rattle.ceu_tree.specs.Numbering.{decl_slots}
use Rattle.ceu_tree.specs.Step.{unseated, unseat_frame, unseat, killed_in, kill_frame, killed}
use Rattle.laws_meaning_values.specs.Ground.{has}
use Rattle.laws_meaning_values.proofs.Stores.{finalized_keeps}
use Rattle.laws_meaning_instances.proofs.Living.{often}
use Rattle.laws_meaning_counters.proofs.Cells.{forget_body_apart, forget_loop_apart}
use Rattle.laws_meaning_counters.proofs.Grips.{point, own}
use Rattle.laws_meaning_counters.proofs.Aborts.{not_own, not_body}
use Rattle.laws_meaning_assigned.proofs.Grips.{slots_grip, grip, grip_each, grip_all, frame_grip, focus_grip, over_grip, unseat_frame_less, unseat_body, unseat_less}
use Rattle.laws_meaning_values.proofs.Stores.{forget_declared_spares}
use Rattle.ceu_tree.specs.World.{is_among}
use Rattle.std.proofs.lemmas.Bool.{or_cases, false≢true}
use Rattle.std.proofs.Common.{◌⊎◌, inl, inr, eq-eqb}
use Rattle.laws_meaning_instances.proofs.Living.{once, once_true}

module _ (codes : List KCode) (b : Body) (x : ℕ) where
  among_often : (y : ℕ) (xs : List ℕ) → is_among y xs ≡ true → y ≡ x → 1 ≤ often x xs
  among_often y [] h e = absurd (false≢true h)
  among_often y (z ∷ zs) h e = go (or_cases (y == z) (is_among y zs) h) (λ k. among_often y zs k e)
    where
      go : ((y == z) ≡ true) ⊎ (is_among y zs ≡ true) → (is_among y zs ≡ true → 1 ≤ often x zs) → 1 ≤ once x z + often x zs
      go (inl q) ih = let o = once_true x z (eq-eqb x z (sym e ∙ eqb-true y z q)) in omega (arith, o)
      go (inr q) ih = let a = ih q in omega (arith, a)

  pub declared_spared : (here : Body) (ds : List KDecl) (w : World) → slots_grip codes b x here ds ≡ 0 → has b x w ≡ true → has b x (forget_declared here ds w) ≡ true
  declared_spared here ds w h v = forget_declared_spares b x here ds w (λ y m s e. apart y m s e) v
    where
      apart : (y : ℕ) → is_among y (decl_slots ds) ≡ true → same_body here b ≡ true → y ≡ x → ⊥
      apart y m s e = let a = among_often y (decl_slots ds) m e in let q : slots_grip codes b x here ds ≡ often x (decl_slots ds) = ap (λ t. if t then often x (decl_slots ds) else 0) s in absurd (omega (arith, a, q, h))

  pub body_spared : (here : Body) (w : World) → point b x here ≡ 0 → has b x w ≡ true → has b x (forget_body here w) ≡ true
  body_spared here w h v = ap is_some (forget_body_apart b x here w (not_body b x here h)) ∙ v

  pub loop_spared : (here : Body) (s : KNode) (w : World) → own b x here (out-KStmt s.stmt) ≡ 0 → has b x w ≡ true → has b x (forget_loop here s.stmt w) ≡ true
  loop_spared here s w h v = ap is_some (forget_loop_apart b x here s w (not_own b x here (out-KStmt s.stmt) h)) ∙ v

  mutual
    unfolding aborted grip

    pub aborted_spared : (r : Residual) (here : Body) (w : World) → grip codes b x here r ≡ 0 → has b x w ≡ true → has b x (aborted r here w) ≡ true
    aborted_spared (Block c fin all r rest) here w h v =
        let w1 = aborted r here w in
        let w2 = instances_aborted all w1 in
        declared_spared here (out-KBlock c).decls (finalized fin here w2) (omega (arith, h)) (finalized_keeps b x fin here w2 (all_spared all w1 (omega (arith, h)) (aborted_spared r here w (omega (arith, h)) v)))
    aborted_spared (Open s r) here w h v = aborted_spared r here w h v
    aborted_spared (Loop s k r) here w h v = loop_spared here s (aborted r here w) (omega (arith, h)) (aborted_spared r here w (omega (arith, h)) v)
    aborted_spared (Call s r) here w h v = body_spared (Awaited here s.node) (aborted r (Awaited here s.node) w) (omega (arith, h)) (aborted_spared r (Awaited here s.node) w (omega (arith, h)) v)
    aborted_spared (Par s bs) here w h v = each_spared bs here w h v
    aborted_spared (InAsync s served r) here w h v = aborted_spared r here w h v
    aborted_spared Over here w h v = v
    aborted_spared (Run n a) here w h v = v
    aborted_spared (WaitInput k s) here w h v = v
    aborted_spared (WaitTime d s) here w h v = v
    aborted_spared (WaitEvent e s) here w h v = v
    aborted_spared (WaitForever s) here w h v = v

    pub each_spared : (bs : Branches) (here : Body) (w : World) → grip_each codes b x here bs ≡ 0 → has b x w ≡ true → has b x (branches_aborted bs here w) ≡ true
    each_spared no_branch here w h v = v
    each_spared (branch r more) here w h v = aborted_spared r here (branches_aborted more here w) (omega (arith, h)) (each_spared more here w (omega (arith, h)) v)

    pub all_spared : (all : Instances) (w : World) → grip_all codes b x all ≡ 0 → has b x w ≡ true → has b x (instances_aborted all w) ≡ true
    all_spared no_instance w h v = v
    all_spared (instance seat r more) w h v =
        let w1 = instances_aborted more w in
        body_spared (Spawned seat.number) (aborted r (Spawned seat.number) w1) (omega (arith, h)) (aborted_spared r (Spawned seat.number) w1 (omega (arith, h)) (all_spared more w (omega (arith, h)) v))

  pub closed_spared : (c : KBlock) (fin : List KNode) (all : Instances) (here : Body) (w : World) → slots_grip codes b x here (out-KBlock c).decls + grip_all codes b x all ≡ 0 → has b x w ≡ true → has b x (closed c fin all here w) ≡ true
  closed_spared c fin all here w h v = declared_spared here (out-KBlock c).decls (finalized fin here (instances_aborted all w)) (omega (arith, h)) (finalized_keeps b x fin here (instances_aborted all w) (all_spared all w (omega (arith, h)) v))

  pub focus_spared : (f : Focus Act) (here : Body) (w : World) → focus_grip codes b x here f ≡ 0 → has b x w ≡ true → has b x (aborted (plug f Over) here w) ≡ true
  focus_spared f here w h v = aborted_spared (plug f Over) here w (over_grip codes b x here f ∙ h) v

  pub dead_spared : (n : ℕ) (w : World) → point b x (Spawned n) ≡ 0 → has b x w ≡ true → has b x (dead n w) ≡ true
  dead_spared n w h v = body_spared (Spawned n) w h v

  -- ---- a kill of an instance that has no hold of the slot

  all_killed : (k : ℕ) (all : Instances) (w : World) → grip_all codes b x (unseated k all) ≡ grip_all codes b x all → has b x w ≡ true → has b x (killed_in k all w) ≡ true
  unfolding grip
  all_killed k no_instance w h v = v
  all_killed k (instance seat r more) w h v = go (seat.number == k) refl h (λ e. all_killed k more w e v)
    where
      go : (t : Bool) → (seat.number == k) ≡ t → grip_all codes b x (if t then more else instance seat r (unseated k more)) ≡ grip_all codes b x (instance seat r more)
          → (grip_all codes b x (unseated k more) ≡ grip_all codes b x more → has b x (killed_in k more w) ≡ true) → has b x (if t then dead k (aborted r (Spawned k) w) else killed_in k more w) ≡ true
      go true q z ih =
          subst (λ j. has b x (dead j (aborted r (Spawned j) w)) ≡ true) (eqb-true seat.number k q)
          (dead_spared seat.number (aborted r (Spawned seat.number) w) (omega (arith, z)) (aborted_spared r (Spawned seat.number) w (omega (arith, z)) v))
      go false q z ih = ih (omega (arith, z))

  frame_killed : (k : ℕ) (here : Body) (fr : Frame) (w : World) → frame_grip codes b x here (unseat_frame k fr) ≡ frame_grip codes b x here fr → has b x w ≡ true → has b x (kill_frame k fr w) ≡ true
  frame_killed k here (OfBlock c fin all rest) w h v = all_killed k all w (omega (arith, h)) v
  frame_killed k here (OfInstance c fin front seat back r rest) w h v = v
  frame_killed k here (OfOpen s) w h v = v
  frame_killed k here (OfLoop s c) w h v = v
  frame_killed k here (OfCall s) w h v = v
  frame_killed k here (OfPar s front back) w h v = v

  pub killed_spared : (k : ℕ) (here : Body) (f : Focus Act) (w : World) → focus_grip codes b x here (unseat k f) ≡ focus_grip codes b x here f → has b x w ≡ true → has b x (killed k f w) ≡ true
  unfolding focus_grip
  killed_spared k here (Here a) w h v = v
  killed_spared k here (In fr f) w h v =
      let s = ap (λ y. focus_grip codes b x y (unseat k f)) (unseat_body codes b x k here fr) in
      let u = unseat_frame_less codes b x k here fr in
      let l = unseat_less codes b x k (body_in fr here) f in
      killed_spared k (body_in fr here) f (kill_frame k fr w) (omega (arith, h, s, u, l)) (frame_killed k here fr w (omega (arith, h, s, u, l)) v)
