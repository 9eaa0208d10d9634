-- A tree fits on when its leaves become others that may stand there.
use Rattle.std.proofs.Common.{◌≡◌, refl, sym, ap, ◌∙◌, ◌≤◌, ℕ, suc, ◌+◌, ℤ, Bool, true, false, not, if◌then◌else◌, ◌==◌, ◌&&◌, List, Option, Some, None, arith}
use Rattle.ceu_tree.specs.declared.kernel.Kernel.{Kernel}
use Rattle.ceu_tree.specs.declared.kernel.ParKind.{ParKind}
use Rattle.ceu_tree.specs.declared.kernel.ParKind.TheVariants as par
use Rattle.ceu_tree.specs.declared.kernel.KNode.{KNode}
use Rattle.ceu_tree.specs.declared.kernel.KBlock.{KBlock}
use Rattle.ceu_tree.specs.declared.kernel.KStmt.{out-KStmt}
use Rattle.ceu_tree.specs.Residual.{Residual, WaitInput, WaitTime, WaitEvent, InAsync, Par, Branches, Instances}
use Rattle.ceu_tree.specs.Focus.{Focus, Here, In, fill, plug, has_body}
use Rattle.ceu_tree.specs.Wake.{each_leaf, each_in_branches, each_in_instances, each_in_body, woken, by_event, by_input, later, by_time, new_round}
use Rattle.ceu_tree.specs.Around.{all_over}
use Rattle.ceu_tree.specs.Proper.{Scope}
use Rattle.laws_meaning_basics.specs.Shape.{Part, pauses, still_on, Fits, to_begin, to_turn, in_list, to_finish, at_input, at_time, at_event, at_forever, at_async, in_part, in_turn, in_call, in_par, EachFits, no_more, an_ended, a_branch, AllFit, none_lives, one_lives, Around, nothing_around, one_around}
use Rattle.laws_meaning_basics.proofs.Fits.{raised, frame_raised, not_over, fill_fits, plug_fits}

still_same : (k : ParKind) (rs qs : Branches) → all_over rs ≡ all_over qs → still_on k qs ≡ true → still_on k rs ≡ true
still_same par.And rs qs e h = ap not e ∙ h
still_same par.Or rs qs e h = refl
still_same par.Never rs qs e h = refl

module _ (K : Kernel) (t u : ℕ) (g : Residual → Residual) (keeps : (d : Part) (r : Residual) → Fits K t d r → Fits K u d (g r)) where
  mutual
    unfolding each_leaf

    pub leaves_fit : {d : Part} {r : Residual} → Fits K t d r → Fits K u d (each_leaf g r)
    leaves_fit (to_begin l) = keeps _ _ (to_begin l)
    leaves_fit (to_turn l p) = keeps _ _ (to_turn l p)
    leaves_fit (in_list done e f all h) = in_list done e f (leaves_fit_all all) (leaves_fit h)
    leaves_fit (to_finish l p) = keeps _ _ (to_finish l p)
    leaves_fit (at_input x e) = keeps _ _ (at_input x e)
    leaves_fit (at_time x y z e) = keeps _ _ (at_time x y z e)
    leaves_fit (at_event x e) = keeps _ _ (at_event x e)
    leaves_fit (at_forever e) = keeps _ _ (at_forever e)
    leaves_fit (at_async b e h) = keeps _ _ (at_async b e h)
    leaves_fit (in_part b e h) = in_part b e (leaves_fit h)
    leaves_fit (in_turn k b e c h) = in_turn k b e c (leaves_fit h)
    leaves_fit (in_call c es f x k e a h) = in_call c es f x k e a (leaves_fit h)
    leaves_fit {r = Par s rs} (in_par k slot bs e on h) = in_par k slot bs e (still_same k (each_in_branches g rs) rs (same_over h) on) (leaves_fit_each h)

    leaves_fit_each : {sc : Scope} {k : ParKind} {bs : List KBlock} {rs : Branches} → EachFits K t sc k bs rs → EachFits K u sc k bs (each_in_branches g rs)
    leaves_fit_each no_more = no_more
    leaves_fit_each (an_ended m h) = an_ended m (leaves_fit_each h)
    leaves_fit_each (a_branch h more) = a_branch (leaves_fit h) (leaves_fit_each more)

    same_over : {sc : Scope} {k : ParKind} {bs : List KBlock} {rs : Branches} → EachFits K t sc k bs rs → all_over (each_in_branches g rs) ≡ all_over rs
    same_over no_more = refl
    same_over (an_ended m h) = same_over h
    same_over (a_branch {r = r} {more = more} h rest) =
        ap (λ b. b && all_over (each_in_branches g more)) (not_over K (leaves_fit h)) ∙ sym (ap (λ b. b && all_over more) (not_over K h))

    leaves_fit_all : {sc : Scope} {all : Instances} → AllFit K t sc all → AllFit K u sc (each_in_instances g all)
    leaves_fit_all none_lives = none_lives
    leaves_fit_all (one_lives k p e h more) = one_lives k p e (leaves_fit h) (leaves_fit_all more)

  -- in the leaf's own open body alone
  pub body_leaves_fit : {A : Type 0} (f : Focus A) (d e : Part) (r : Residual) → t ≤ u → Around K t A f d e → Fits K t e r → Fits K u d (each_in_body g f r)
  body_leaves_fit (Here a) d e r q nothing_around h = leaves_fit h
  body_leaves_fit (In fr f) d e r q (one_around {e = c} x more) h = go (has_body (In fr f)) (body_leaves_fit f c e r q more h)
    where
      go : (b : Bool) → Fits K u c (each_in_body g f r) → Fits K u d (if b then fill fr (each_in_body g f r) else each_leaf g (plug (In fr f) r))
      go true a = fill_fits K (frame_raised K q x) a
      go false a = leaves_fit (plug_fits K (one_around x more) h)

  pub woken_fits : {A : Type 0} {f : Focus A} {d e : Part} {r : Residual} (code : Option ℕ) → t ≤ u → Around K t A f d e → Fits K t e r → Fits K u d (woken code g f r)
  woken_fits None q x h = leaves_fit (plug_fits K x h)
  woken_fits (Some code) q x h = body_leaves_fit _ _ _ _ q x h

-- ---- what wakes

either_fits : (K : Kernel) (u : ℕ) (d : Part) (b : Bool) (x y : Residual) → Fits K u d x → Fits K u d y → Fits K u d (if b then x else y)
either_fits K u d true x y h k = h
either_fits K u d false x y h k = k

module _ (K : Kernel) where
  pauses_at : (s : KNode) (layer : _) → out-KStmt s.stmt ≡ layer → pauses layer ≡ true → pauses (out-KStmt s.stmt) ≡ true
  pauses_at s layer e h = ap pauses e ∙ h

  pub by_event_fits : (n event : ℕ) (v : ℤ) (d : Part) (r : Residual) → Fits K (suc n) d r → Fits K (suc (suc n)) d (by_event (n + 1) event v r)
  by_event_fits n event v d (WaitEvent k s) (at_event x e) =
      either_fits K (suc (suc n)) _ (k == event) _ _ (to_finish (omega arith) (pauses_at s _ e refl)) (at_event x e)
  by_event_fits n event v d r h = raised K (omega arith) h

  pub by_input_fits : (k : ℕ) (v : ℤ) (d : Part) (r : Residual) → Fits K 0 d r → Fits K 1 d (by_input k v r)
  by_input_fits k v d (WaitInput m s) (at_input x e) =
      either_fits K 1 _ (m == k) _ _ (to_finish (omega arith) (pauses_at s _ e refl)) (at_input x e)
  by_input_fits k v d r h = raised K (omega arith) h

  pub by_time_fits : (delay : ℕ) (d : Part) (r : Residual) → Fits K 0 d r → Fits K 1 d (by_time delay r)
  by_time_fits delay d (WaitTime m s) (at_time x y z e) =
      either_fits K 1 _ (m == 0) _ _ (to_finish (omega arith) (pauses_at s _ e refl)) (at_time x y z e)
  by_time_fits delay d r h = raised K (omega arith) h

  pub later_fits : (us : ℕ) (d : Part) (r : Residual) → Fits K 0 d r → Fits K 0 d (later us r)
  later_fits us d (WaitTime m s) (at_time x y z e) = at_time x y z e
  later_fits us d r h = h

  pub round_fits : (d : Part) (r : Residual) → Fits K 0 d r → Fits K 0 d (new_round r)
  round_fits d (InAsync s served r) (at_async b e h) = at_async b e h
  round_fits d r h = h
