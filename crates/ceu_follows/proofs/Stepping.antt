-- A step of a reaction of a program of one trail keeps what holds of its configurations.
use Rattle.std.proofs.Common.{◌≡◌, refl, sym, ap, ◌∙◌, subst, zero, suc, true, Option, Some, None}
use Rattle.ceu_base.specs.declared.kinds.Pos.{Pos}
use Rattle.ceu_base.specs.declared.kinds.Fault.{Fault}
use Rattle.ceu_base.specs.declared.kinds.Mark.TheVariants as mark
use Rattle.ceu_tree.specs.declared.kernel.Kernel.{Kernel}
use Rattle.ceu_tree.specs.Residual.{Program, Act, Residual}
use Rattle.ceu_tree.specs.Focus.{Focus, choose}
use Rattle.ceu_tree.specs.World.{World, marked}
use Rattle.ceu_tree.specs.Wake.{runs_at}
use Rattle.ceu_tree.specs.Around.{Outcome, Goes, Rests, Raises, Fails, Past, Registers, AtBlockEnd, AtLoopHead, Ends, Leaves}
use Rattle.ceu_tree.specs.Step.{stepped}
use Rattle.ceu_tree.specs.Proper.{is_proper}
use Rattle.ceu_tree.specs.Run.{Config, Turning, Between, Waiting, Ended, Faulted, config_of, chosen_at, next, world_of}
use Rattle.laws_meaning_basics.specs.Laws.{is_whole}
use Rattle.laws_meaning_basics.specs.Shape.{ConfigFits}
use Rattle.laws_meaning_basics.proofs.RunFits.{next_fits, step_whole}
use Rattle.laws_meaning_values.proofs.RunValues.{next_valued}
use Rattle.ceu_single.specs.Single.{is_single}
use Rattle.ceu_endings.specs.Laws.{AtLevelZero}
use Rattle.ceu_endings.proofs.Shapes.{no_codes}
use Rattle.ceu_endings.proofs.CountedRuns as counters
use Rattle.ceu_endings.proofs.Calm.{Good, next_good}
use Rattle.ceu_trail.specs.Within.{TurnWithin}
use Rattle.ceu_within.specs.Laws.{OutcomeWithin}
use Rattle.ceu_within.proofs.Whole.{step_within, chosen_within}
use Rattle.ceu_follows.specs.Kept.{ConfigWithin, Kept}
use Rattle.ceu_follows.proofs.Unharmed.{FailsClear, Unharmed, step_unharmed, aborted_quietly}

module _ (K : Kernel) (proper : is_proper K ≡ true) (single : is_single K ≡ true) where
  pub step_of : (f : Focus Act) (w : World) → ConfigFits K (Turning 0 f w) → Unharmed w (stepped K 0 Program f w)
  step_of f w h = step_unharmed K 0 f w proper single h

  -- no finalizer has failed
  pub next_is : (f : Focus Act) (w : World) → ConfigFits K (Turning 0 f w) → w.fault ≡ None
      → next K (Turning 0 f w) ≡ config_of 0 (stepped K 0 Program f w).outcome (stepped K 0 Program f w).world
  unfolding next
  next_is f w h e =
      let m = stepped K 0 Program f w in
      let c : Config = config_of 0 m.outcome m.world in
      ap (λ (o : Option (Fault × Pos)). elim o as (λ _. Config) [ Some y ↦ Faulted y m.world | None ↦ c ]) ((step_of f w h).fault ∙ e)

  -- ---- by the step's outcome

  outcome_within : (x : Outcome) (u : World) → is_whole x ≡ true → Good (config_of 0 x u) → OutcomeWithin K x u → ConfigWithin K (config_of 0 x u)
  outcome_within (Goes g) u p q h = h
  outcome_within (Rests r) u p q h = h
  outcome_within (Raises r) u p q h = absurd (let z = q.0 in cc)
  outcome_within (Fails e r) u p q h = tt
  outcome_within (Ends v) u p q h = tt
  outcome_within Past u p q h = absurd (cc)
  outcome_within (Registers s) u p q h = absurd (cc)
  outcome_within AtBlockEnd u p q h = absurd (cc)
  outcome_within AtLoopHead u p q h = absurd (cc)
  outcome_within (Leaves node y) u p q h = absurd (cc)

  outcome_unfaulted : (x : Outcome) (u : World) → u.fault ≡ None → FailsClear x → (world_of (config_of 0 x u)).fault ≡ None
  outcome_unfaulted (Goes g) u e h = e
  outcome_unfaulted (Rests r) u e h = e
  outcome_unfaulted (Raises r) u e h = e
  outcome_unfaulted (Fails z r) u e h = (aborted_quietly r Program u h).fault ∙ e
  outcome_unfaulted (Ends v) u e h = e
  outcome_unfaulted Past u e h = e
  outcome_unfaulted (Registers s) u e h = e
  outcome_unfaulted AtBlockEnd u e h = e
  outcome_unfaulted AtLoopHead u e h = e
  outcome_unfaulted (Leaves node y) u e h = e

  pub turn_good : (f : Focus Act) (w : World) → Kept K (Turning 0 f w) → Good (config_of 0 (stepped K 0 Program f w).outcome (stepped K 0 Program f w).world)
  turn_good f w h = subst Good (next_is f w h.fits h.unfaulted) (next_good K proper single (Turning 0 f w) h.fits refl)

  turn_within : (f : Focus Act) (w : World) → Kept K (Turning 0 f w) → ConfigWithin K (next K (Turning 0 f w))
  turn_within f w h =
      let m = stepped K 0 Program f w in
      subst (ConfigWithin K) (sym (next_is f w h.fits h.unfaulted)) (outcome_within m.outcome m.world (step_whole K proper 0 f w h.fits) (turn_good f w h) (step_within K f w proper single h.fits h.within))

  turn_unfaulted : (f : Focus Act) (w : World) → Kept K (Turning 0 f w) → (world_of (next K (Turning 0 f w))).fault ≡ None
  turn_unfaulted f w h =
      let m = stepped K 0 Program f w in
      let s = step_of f w h.fits in
      ap (λ (c : Config). (world_of c).fault) (next_is f w h.fits h.unfaulted) ∙ outcome_unfaulted m.outcome m.world (s.fault ∙ h.unfaulted) s.clear

  -- ---- between two turns

  same_within : (f : Focus Act) (w : World) → TurnWithin K f w → TurnWithin K f (marked (mark.Resume 0) w)
  same_within f w h = record { values = record { within = h.values.within }; counters = h.counters; brought = h.brought }

  choice_within : (o : Option (Focus Act)) (r : Residual) (w : World) → choose Act (runs_at 0) r ≡ o → Kept K (Between 0 r w) → ConfigWithin K (chosen_at 0 o r w)
  choice_within None r w e h = h.within
  choice_within (Some f) r w e h = same_within f w (chosen_within K r w f proper single h.fits h.within e)

  choice_unfaulted : (o : Option (Focus Act)) (r : Residual) (w : World) → w.fault ≡ None → (world_of (chosen_at 0 o r w)).fault ≡ None
  choice_unfaulted None r w e = e
  choice_unfaulted (Some f) r w e = e

  next_within : (c : Config) → Kept K c → AtLevelZero c → ConfigWithin K (next K c)
  unfolding next
  next_within (Turning zero f w) h z = turn_within f w h
  next_within (Turning (suc n) f w) h z = absurd (cc)
  next_within (Between zero r w) h z = choice_within (choose Act (runs_at 0) r) r w refl h
  next_within (Between (suc n) r w) h z = absurd (cc)
  next_within (Waiting r w) h z = h.within
  next_within (Ended v w) h z = tt
  next_within (Faulted e w) h z = tt

  next_unfaulted : (c : Config) → Kept K c → AtLevelZero c → (world_of (next K c)).fault ≡ None
  unfolding next
  next_unfaulted (Turning zero f w) h z = turn_unfaulted f w h
  next_unfaulted (Turning (suc n) f w) h z = absurd (cc)
  next_unfaulted (Between zero r w) h z = choice_unfaulted (choose Act (runs_at 0) r) r w h.unfaulted
  next_unfaulted (Between (suc n) r w) h z = absurd (cc)
  next_unfaulted (Waiting r w) h z = h.unfaulted
  next_unfaulted (Ended v w) h z = h.unfaulted
  next_unfaulted (Faulted e w) h z = h.unfaulted

  pub next_kept : (c : Config) → Kept K c → AtLevelZero c → Kept K (next K c)
  next_kept c h z = record {
    fits = next_fits K proper c h.fits;
    valued = next_valued K proper (no_codes K single).0 c h.fits h.valued;
    counted = counters.next_kept K c h.counted;
    within = next_within c h z;
    unfaulted = next_unfaulted c h z;
  }

  -- ---- a turn begins, or the reaction is over

  choice_is : (r : Residual) (w : World) (o : Option (Focus Act)) → choose Act (runs_at 0) r ≡ o → next K (Between 0 r w) ≡ chosen_at 0 o r w
  unfolding next
  choice_is r w o e = ap (λ (x : Option (Focus Act)). chosen_at 0 x r w) e

  pub begins_next : (r : Residual) (w : World) (f : Focus Act) → choose Act (runs_at 0) r ≡ Some f → next K (Between 0 r w) ≡ Turning 0 f (marked (mark.Resume 0) w)
  begins_next r w f e = choice_is r w (Some f) e

  pub waits_next : (r : Residual) (w : World) → choose Act (runs_at 0) r ≡ None → next K (Between 0 r w) ≡ Waiting r w
  waits_next r w e = choice_is r w None e

  pub begins_kept : (r : Residual) (w : World) (f : Focus Act) → Kept K (Between 0 r w) → choose Act (runs_at 0) r ≡ Some f → Kept K (Turning 0 f (marked (mark.Resume 0) w))
  begins_kept r w f h e = subst (Kept K) (begins_next r w f e) (next_kept (Between 0 r w) h refl)

  pub waits_kept : (r : Residual) (w : World) → Kept K (Between 0 r w) → choose Act (runs_at 0) r ≡ None → Kept K (Waiting r w)
  waits_kept r w h e = subst (Kept K) (waits_next r w e) (next_kept (Between 0 r w) h refl)
