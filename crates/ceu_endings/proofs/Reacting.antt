-- A reaction of a program of one trail ends: a step chooses its only turn, the turn ends, and a step finds that nothing can run.
use Rattle.std.proofs.Common.{◌≡◌, refl, sym, ap, ◌∙◌, subst, ℕ, zero, suc, ◌+◌, false, Option, Some, None, arith}
use Rattle.ceu_base.specs.declared.kinds.Mark.TheVariants as mark
use Rattle.ceu_tree.specs.declared.kernel.Kernel.{Kernel}
use Rattle.ceu_tree.specs.Residual.{Act, Residual}
use Rattle.ceu_tree.specs.Focus.{Focus, choose}
use Rattle.ceu_tree.specs.World.{World, marked}
use Rattle.ceu_tree.specs.Wake.{runs_at}
use Rattle.ceu_tree.specs.Run.{Config, Turning, Between, Waiting, Ended, Faulted, chosen_at, next, steps, is_reacting}
use Rattle.laws_meaning_basics.specs.Shape.{ConfigFits}
use Rattle.laws_meaning_basics.proofs.RunFits.{next_fits}
use Rattle.laws_meaning_basics.proofs.StepLaws.{steps_stand}
use Rattle.ceu_endings.specs.Counted.{Counted}
use Rattle.ceu_endings.specs.Laws.{Settled}
use Rattle.ceu_endings.specs.Ends.{longest_run, EndsTurns, TurnOver}
use Rattle.ceu_endings.proofs.CountedRuns.{next_kept}
use Rattle.ceu_endings.proofs.Calm.{turn_settles}
use Rattle.ceu_endings.proofs.Ending.{turn_ends}

module _ (K : Kernel) where
  stands : (k : ℕ) (c : Config) → is_reacting c ≡ false → steps K k c ≡ c
  unfolding steps
  stands k c h = steps_stand K 0 k c (omega arith) h

  first_between : (m j n : ℕ) (r : Residual) (w : World) → m ≡ suc j → steps K m (Between n r w) ≡ steps K j (next K (Between n r w))
  unfolding steps
  first_between m j n r w e = ap (λ i. steps K i (Between n r w)) e

  first_turning : (m j n : ℕ) (f : Focus Act) (w : World) → m ≡ suc j → steps K m (Turning n f w) ≡ steps K j (next K (Turning n f w))
  unfolding steps
  first_turning m j n f w e = ap (λ i. steps K i (Turning n f w)) e

  steps_then : (j k m : ℕ) (c : Config) → m ≡ j + k → steps K m c ≡ steps K k (steps K j c)
  unfolding steps
  steps_then zero k m c e = ap (λ i. steps K i c) (omega (arith, e))
  steps_then (suc j) k m (Turning n f w) e = first_turning m (j + k) n f w (omega (arith, e)) ∙ steps_then j k (j + k) (next K (Turning n f w)) refl
  steps_then (suc j) k m (Between n r w) e = first_between m (j + k) n r w (omega (arith, e)) ∙ steps_then j k (j + k) (next K (Between n r w)) refl
  steps_then (suc j) k m (Waiting r w) e = stands m (Waiting r w) refl ∙ sym (stands k (Waiting r w) refl)
  steps_then (suc j) k m (Ended v w) e = stands m (Ended v w) refl ∙ sym (stands k (Ended v w) refl)
  steps_then (suc j) k m (Faulted z w) e = stands m (Faulted z w) refl ∙ sym (stands k (Faulted z w) refl)

  -- between the only turn and the end
  settled_over : (c : Config) → Settled c → is_reacting (steps K 1 c) ≡ false
  unfolding steps next
  settled_over (Turning n f w) h = absurd h
  settled_over (Between zero r w) h = subst (λ o. is_reacting (chosen_at 0 o r w) ≡ false) (sym h.1) refl
  settled_over (Between (suc n) r w) h = absurd (let z = h.0 in cc)
  settled_over (Waiting r w) h = refl
  settled_over (Ended v w) h = refl
  settled_over (Faulted e w) h = refl

  turn_reacts : (b : ℕ) (f : Focus Act) (w : World) → EndsTurns K → ConfigFits K (Turning 0 f w) → TurnOver K b (Turning 0 f w) → is_reacting (steps K (b + 1) (Turning 0 f w)) ≡ false
  turn_reacts b f w h x t =
      let s = turn_settles K t.count f w h.proper h.single x t.over in
      let e = ap is_reacting (steps_then t.count 1 (t.count + 1) (Turning 0 f w) refl) ∙ settled_over (steps K t.count (Turning 0 f w)) s in
      ap is_reacting (steps_stand K (t.count + 1) (b + 1) (Turning 0 f w) (omega (arith, t.within)) e) ∙ e

  chosen_reacts : (b : ℕ) (r : Residual) (w : World) → EndsTurns K → ((f : Focus Act) (u : World) → ConfigFits K (Turning 0 f u) → Counted (Turning 0 f u) → TurnOver K b (Turning 0 f u))
      → (o : Option (Focus Act)) → ConfigFits K (chosen_at 0 o r w) → Counted (chosen_at 0 o r w) → is_reacting (steps K (b + 2) (chosen_at 0 o r w)) ≡ false
  chosen_reacts b r w h t None x c = ap is_reacting (stands (b + 2) (Waiting r w) refl)
  chosen_reacts b r w h t (Some f) x c =
      let u = marked (mark.Resume 0) w in
      let e = turn_reacts b f u h x (t f u x c) in
      ap is_reacting (steps_stand K (b + 1) (b + 2) (Turning 0 f u) (omega arith) e) ∙ e

  between_reacts : (b : ℕ) (r : Residual) (w : World) → EndsTurns K → ((f : Focus Act) (u : World) → ConfigFits K (Turning 0 f u) → Counted (Turning 0 f u) → TurnOver K b (Turning 0 f u))
      → ConfigFits K (Between 0 r w) → Counted (Between 0 r w) → is_reacting (steps K (b + 3) (Between 0 r w)) ≡ false
  unfolding next
  between_reacts b r w h t x c =
      ap is_reacting (first_between (b + 3) (b + 2) 0 r w (omega arith)) ∙
      chosen_reacts b r w h t (choose Act (runs_at 0) r) (next_fits K h.proper (Between 0 r w) x) (next_kept K (Between 0 r w) c)

pub reaction_ends : (K : Kernel) (r : Residual) (w : World) → EndsTurns K → ConfigFits K (Between 0 r w) → Counted (Between 0 r w) → is_reacting (steps K (longest_run + 3) (Between 0 r w)) ≡ false
reaction_ends K r w h x c = between_reacts K longest_run r w h (λ f u y z. turn_ends K f u h y z) x c
