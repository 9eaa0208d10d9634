-- What fits goes on to fit: under higher levels, in a frame, with leaves that have become others.
use Rattle.std.proofs.Common.{◌≡◌, refl, ap, ◌∙◌, ◌≤◌, ℕ, Bool, true, false, not, ◌&&◌, List, ◌∷◌, ◌++◌, arith}
use Rattle.ceu_tree.specs.declared.kernel.Kernel.{Kernel}
use Rattle.ceu_tree.specs.declared.kernel.ParKind.{ParKind}
use Rattle.ceu_tree.specs.declared.kernel.ParKind.TheVariants as par
use Rattle.ceu_tree.specs.declared.kernel.KBlock.{KBlock}
use Rattle.ceu_tree.specs.Residual.{Residual, Over, Branches, no_branch, branch, Instances}
use Rattle.ceu_tree.specs.Focus.{Frame, OfPar, Focus, join, join_instances, fill, plug, graft}
use Rattle.ceu_tree.specs.Around.{is_over, all_over}
use Rattle.ceu_tree.specs.Proper.{Scope}
use Rattle.laws_meaning_basics.specs.Shape.{Part, still_on, Fits, to_begin, to_turn, in_list, to_finish, at_input, at_time, at_event, at_forever, at_async, in_part, in_turn, in_call, in_par, EachFits, no_more, an_ended, a_branch, AllFit, none_lives, one_lives, FrameFits, around_statement, around_end, around_instance, around_part, around_turn, around_call, around_branch, Around, nothing_around, one_around}

-- nothing that is over fits
pub over_fits_not : (K : Kernel) (top : ℕ) (d : Part) → Fits K top d Over → ⊥
over_fits_not K top d h = elim h [ ]

module _ (K : Kernel) where
  mutual
    -- under a higher level
    pub raised : {t u : ℕ} {d : Part} {r : Residual} → t ≤ u → Fits K t d r → Fits K u d r
    raised q (to_begin l) = to_begin (omega (arith, q, l))
    raised q (to_turn l p) = to_turn (omega (arith, q, l)) p
    raised q (in_list done e f all h) = in_list done e f (all_raised q all) (raised q h)
    raised q (to_finish l p) = to_finish (omega (arith, q, l)) p
    raised q (at_input t e) = at_input t e
    raised q (at_time x u t e) = at_time x u t e
    raised q (at_event t e) = at_event t e
    raised q (at_forever e) = at_forever e
    raised q (at_async b e h) = at_async b e h
    raised q (in_part b e h) = in_part b e (raised q h)
    raised q (in_turn k b e c h) = in_turn k b e c (raised q h)
    raised q (in_call c es f t k e g h) = in_call c es f t k e g (raised q h)
    raised q (in_par k slot bs e s h) = in_par k slot bs e s (each_raised q h)

    pub each_raised : {t u : ℕ} {sc : Scope} {k : ParKind} {bs : List KBlock} {rs : Branches} → t ≤ u → EachFits K t sc k bs rs → EachFits K u sc k bs rs
    each_raised q no_more = no_more
    each_raised q (an_ended m h) = an_ended m (each_raised q h)
    each_raised q (a_branch h more) = a_branch (raised q h) (each_raised q more)

    pub all_raised : {t u : ℕ} {sc : Scope} {all : Instances} → t ≤ u → AllFit K t sc all → AllFit K u sc all
    all_raised q none_lives = none_lives
    all_raised q (one_lives k p e h more) = one_lives k p e (raised q h) (all_raised q more)

  pub frame_raised : {t u : ℕ} {fr : Frame} {d e : Part} → t ≤ u → FrameFits K t fr d e → FrameFits K u fr d e
  frame_raised q (around_statement done e f all) = around_statement done e f (all_raised q all)
  frame_raised q (around_end f all) = around_end f (all_raised q all)
  frame_raised q (around_instance done k e f h before after p c) = around_instance done k e f (raised q h) (all_raised q before) (all_raised q after) p c
  frame_raised q (around_part b e) = around_part b e
  frame_raised q (around_turn k b e c) = around_turn k b e c
  frame_raised q (around_call c es f t k e g) = around_call c es f t k e g
  frame_raised q (around_branch k slot bs b cs e before after) = around_branch k slot bs b cs e (each_raised q before) (each_raised q after)

  pub around_raised : {A : Type 0} {t u : ℕ} {f : Focus A} {d e : Part} → t ≤ u → Around K t A f d e → Around K u A f d e
  around_raised q nothing_around = nothing_around
  around_raised q (one_around fr more) = one_around (frame_raised q fr) (around_raised q more)

  -- ---- in frames

  pub each_joined : {t : ℕ} {sc : Scope} {k : ParKind} {bs cs : List KBlock} {before after : Branches} → EachFits K t sc k bs before → EachFits K t sc k cs after → EachFits K t sc k (bs ++ cs) (join before after)
  each_joined no_more h = h
  each_joined (an_ended m a) h = an_ended m (each_joined a h)
  each_joined (a_branch r a) h = a_branch r (each_joined a h)

  pub all_joined : {t : ℕ} {sc : Scope} {before after : Instances} → AllFit K t sc before → AllFit K t sc after → AllFit K t sc (join_instances before after)
  all_joined none_lives h = h
  all_joined (one_lives k p e r a) h = one_lives k p e r (all_joined a h)

  -- a branch that is not over keeps a par on
  pub not_over : {t : ℕ} {d : Part} {r : Residual} → Fits K t d r → is_over r ≡ false
  not_over (to_begin l) = refl
  not_over (to_turn l p) = refl
  not_over (in_list done e f all h) = refl
  not_over (to_finish l p) = refl
  not_over (at_input t e) = refl
  not_over (at_time x u t e) = refl
  not_over (at_event t e) = refl
  not_over (at_forever e) = refl
  not_over (at_async b e h) = refl
  not_over (in_part b e h) = refl
  not_over (in_turn k b e c h) = refl
  not_over (in_call c es f t k e g h) = refl
  not_over (in_par k slot bs e s h) = refl

  join_not_over : (before : Branches) (r : Residual) (after : Branches) → is_over r ≡ false → all_over (join before (branch r after)) ≡ false
  join_not_over no_branch r after h = ap (λ b. b && all_over after) h
  join_not_over (branch q more) r after h = ap (λ b. is_over q && b) (join_not_over more r after h) ∙ and_false (is_over q)
    where
      and_false : (b : Bool) → (b && false) ≡ false
      and_false true = refl
      and_false false = refl

  pub on_still : (k : ParKind) (before : Branches) (r : Residual) (after : Branches) → is_over r ≡ false → still_on k (join before (branch r after)) ≡ true
  on_still par.And before r after h = ap not (join_not_over before r after h)
  on_still par.Or before r after h = refl
  on_still par.Never before r after h = refl

  pub fill_fits : {t : ℕ} {fr : Frame} {d e : Part} {r : Residual} → FrameFits K t fr d e → Fits K t e r → Fits K t d (fill fr r)
  fill_fits (around_statement done e f all) h = in_list done e f all h
  fill_fits (around_end f all) h = elim h [ ]
  fill_fits (around_instance done k e f r before after p c) h = in_list done e f (all_joined before (one_lives k p c h after)) r
  fill_fits (around_part b e) h = in_part b e h
  fill_fits (around_turn k b e c) h = in_turn k b e c h
  fill_fits (around_call c es f t k e g) h = in_call c es f t k e g h
  fill_fits {fr = OfPar s before after} (around_branch k slot bs b cs e x y) h = in_par k slot (bs ++ b ∷ cs) e (on_still k before _ after (not_over h)) (each_joined x (a_branch h y))

  pub plug_fits : {A : Type 0} {t : ℕ} {f : Focus A} {d e : Part} {r : Residual} → Around K t A f d e → Fits K t e r → Fits K t d (plug f r)
  plug_fits nothing_around h = h
  plug_fits (one_around fr more) h = fill_fits fr (plug_fits more h)

  pub graft_around : {A B : Type 0} {t : ℕ} {f : Focus A} {x : Focus B} {d e g : Part} → Around K t A f d e → Around K t B x e g → Around K t B (graft f x) d g
  graft_around nothing_around h = h
  graft_around (one_around fr more) h = one_around fr (graft_around more h)
