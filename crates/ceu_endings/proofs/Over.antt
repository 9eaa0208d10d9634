-- A turn that comes to an outcome after so many steps is over then.
use Rattle.std.proofs.Common.{◌≡◌, refl, ap, ◌∙◌, subst, ℕ, zero, suc, true, false, Option, Some, None, arith}
use Rattle.ceu_base.specs.declared.kinds.Pos.{Pos}
use Rattle.ceu_base.specs.declared.kinds.Fault.{Fault}
use Rattle.ceu_tree.specs.declared.kernel.Kernel.{Kernel}
use Rattle.ceu_tree.specs.Residual.{Program, Act}
use Rattle.ceu_tree.specs.Focus.{Focus}
use Rattle.ceu_tree.specs.World.{World}
use Rattle.ceu_tree.specs.Around.{Outcome, Goes, Rests, Raises, Fails, Past, Registers, AtBlockEnd, AtLoopHead, Ends, Leaves, moved, taken}
use Rattle.ceu_tree.specs.Step.{stepped}
use Rattle.ceu_tree.specs.Proper.{is_proper}
use Rattle.ceu_tree.specs.Run.{Config, Turning, Faulted, config_of, unless_failed, next, steps}
use Rattle.laws_meaning_basics.specs.Shape.{ConfigFits}
use Rattle.laws_meaning_basics.proofs.RunFits.{next_fits}
use Rattle.ceu_single.specs.Single.{is_single}
use Rattle.ceu_endings.specs.Laws.{is_turning}
use Rattle.ceu_endings.specs.Ends.{TurnOver}
use Rattle.ceu_endings.proofs.Local.{goes_or, Halts, local}
use Rattle.ceu_endings.proofs.Shapes.{plain_focus, no_codes}
use Rattle.ceu_endings.proofs.Plain.{whole, stepped_is}
use Rattle.ceu_endings.proofs.MidTurn.{Any}

module _ (K : Kernel) (proper : is_proper K ≡ true) (single : is_single K ≡ true) where
  pub turn_steps : (n : ℕ) (f : Focus Act) (w : World) → ConfigFits K (Turning n f w) → stepped K n Program f w ≡ whole f (local K n Program f w)
  turn_steps n f w h = let a = no_codes K single in stepped_is K n h.part f w h.acts (plain_focus K a.0 h.around a.1).1

  over_now : (j : ℕ) (c : Config) → is_turning c ≡ false → TurnOver K j c
  unfolding steps
  over_now j c h = record { count = 0; within = omega arith; over = h }

  over_next : (j n : ℕ) (f : Focus Act) (w : World) (c : Config) → next K (Turning n f w) ≡ c → TurnOver K j c → TurnOver K (suc j) (Turning n f w)
  unfolding steps
  over_next j n f w c e h = record { count = suc h.count; within = omega (arith, h.within); over = ap (λ d. is_turning (steps K h.count d)) e ∙ h.over }

  next_is : (n : ℕ) (f : Focus Act) (w : World) (x : Outcome) (u : World) → stepped K n Program f w ≡ moved x u → next K (Turning n f w) ≡ unless_failed u (config_of n x u)
  unfolding next
  next_is n f w x u e = ap (λ m. unless_failed m.world (config_of n m.outcome m.world)) e

  stays_over : (u : World) (c : Config) → is_turning c ≡ false → is_turning (unless_failed u c) ≡ false
  stays_over u c h = go u.fault
    where
      go : (o : Option (Fault × Pos)) → is_turning (elim o [ Some e ↦ Faulted e u | None ↦ c ]) ≡ false
      go None = h
      go (Some e) = refl

  goes_over : (j n : ℕ) (g : Focus Act) (u : World) → TurnOver K j (Turning n g u) → TurnOver K j (unless_failed u (Turning n g u))
  goes_over j n g u h = go u.fault
    where
      go : (o : Option (Fault × Pos)) → TurnOver K j (elim o [ Some e ↦ Faulted e u | None ↦ Turning n g u ])
      go None = h
      go (Some e) = over_now j (Faulted e u) refl

  fits_on : (n : ℕ) (f : Focus Act) (w : World) (g : Focus Act) (u : World) → ConfigFits K (Turning n f w) → stepped K n Program f w ≡ moved (Goes g) u → u.fault ≡ None → ConfigFits K (Turning n g u)
  fits_on n f w g u h e o =
      subst (ConfigFits K) (next_is n f w (Goes g) u e ∙ ap (λ z. elim z [ Some y ↦ Faulted y u | None ↦ Turning n g u ]) o) (next_fits K proper (Turning n f w) h)

  pub turn_over : (j n : ℕ) (f : Focus Act) (w : World) → ConfigFits K (Turning n f w) → Halts K n Any Program j f w → TurnOver K j (Turning n f w)
  unfolding Halts
  turn_over zero n f w h x = absurd x
  turn_over (suc j) n f w h x = go (local K n Program f w).outcome (local K n Program f w).world (turn_steps n f w h) (λ g u y z. turn_over j n g u y z) x
    where
      done : (y : Outcome) (u : World) → stepped K n Program f w ≡ moved y u → is_turning (config_of n y u) ≡ false → TurnOver K (suc j) (Turning n f w)
      done y u e q = over_next j n f w (unless_failed u (config_of n y u)) (next_is n f w y u e) (over_now j (unless_failed u (config_of n y u)) (stays_over u (config_of n y u) q))

      on : (g : Focus Act) (u : World) → stepped K n Program f w ≡ moved (Goes g) u → ((g : Focus Act) (u : World) → ConfigFits K (Turning n g u) → Halts K n Any Program j g u → TurnOver K j (Turning n g u))
          → Halts K n Any Program j g u → (o : Option (Fault × Pos)) → u.fault ≡ o → TurnOver K (suc j) (Turning n f w)
      on g u e ih y None o = over_next j n f w (unless_failed u (Turning n g u)) (next_is n f w (Goes g) u e) (goes_over j n g u (ih g u (fits_on n f w g u h e o) y))
      on g u e ih y (Some z) o = over_next j n f w (Faulted z u) (next_is n f w (Goes g) u e ∙ ap (λ z. elim z [ Some y ↦ Faulted y u | None ↦ Turning n g u ]) o) (over_now j (Faulted z u) refl)

      go : (y : Outcome) (u : World) → stepped K n Program f w ≡ moved (taken f y) u → ((g : Focus Act) (u : World) → ConfigFits K (Turning n g u) → Halts K n Any Program j g u → TurnOver K j (Turning n g u))
          → goes_or (Halts K n Any Program j) Any y u → TurnOver K (suc j) (Turning n f w)
      go (Goes g) u e ih z = on g u e ih z u.fault refl
      go (Rests r) u e ih z = done (Rests r) u e refl
      go (Raises r) u e ih z = done (Raises r) u e refl
      go (Fails q r) u e ih z = done (Fails q r) u e refl
      go Past u e ih z = done (taken f Past) u e refl
      go (Registers q) u e ih z = done (taken f (Registers q)) u e refl
      go AtBlockEnd u e ih z = done (taken f AtBlockEnd) u e refl
      go AtLoopHead u e ih z = done (taken f AtLoopHead) u e refl
      go (Ends v) u e ih z = done (Ends v) u e refl
      go (Leaves node y) u e ih z = done (taken f (Leaves node y)) u e refl
