-- A reaction in which no more turns begin than some number is over in the end.
use Rattle.std.proofs.Common.{◌≡◌, refl, sym, subst, ◌≤◌, ℕ, zero, suc, ◌+◌, false, Option, Some, None, arith}
use Rattle.std.proofs.lemmas.Bool.{false≢true}
use Rattle.ceu_tree.specs.declared.kernel.Kernel.{Kernel}
use Rattle.ceu_tree.specs.Residual.{Act, Residual}
use Rattle.ceu_tree.specs.Focus.{Focus, choose}
use Rattle.ceu_tree.specs.World.{World}
use Rattle.ceu_tree.specs.Wake.{runs_at}
use Rattle.ceu_tree.specs.Run.{Config, Turning, Between, Waiting, Ended, Faulted, chosen_at, next, steps, is_reacting}
use Rattle.laws_meaning_basics.specs.Shape.{ConfigFits}
use Rattle.laws_meaning_basics.proofs.RunFits.{next_fits}
use Rattle.ceu_endings.specs.Counted.{Counted}
use Rattle.ceu_endings.specs.Laws.{is_turning}
use Rattle.ceu_endings.proofs.CountedRuns.{next_kept}
use Rattle.laws_bounds_steps.specs.Kept.{RulesKept}
use Rattle.laws_bounds_steps.specs.Programs.{begins, turns_begun}
use Rattle.laws_bounds_turns.specs.TurnsLaws.{CodesLeave}
use Rattle.laws_bounds_turns.proofs.Ending.{turn_ends}

module _ (K : Kernel) (kept : RulesKept K) (leave : CodesLeave K) where
  abbrev ReactionOver : Config → Type 0
  ReactionOver c = (count : ℕ) × (is_reacting (steps K count c) ≡ false)

  over_now : (c : Config) → is_reacting c ≡ false → ReactionOver c
  unfolding steps
  over_now c h = (0, h)

  turn_next : (n : ℕ) (f : Focus Act) (w : World) → ReactionOver (next K (Turning n f w)) → ReactionOver (Turning n f w)
  unfolding steps
  turn_next n f w h = (suc h.0, h.1)

  level_next : (n : ℕ) (r : Residual) (w : World) → ReactionOver (next K (Between n r w)) → ReactionOver (Between n r w)
  unfolding steps
  level_next n r w h = (suc h.0, h.1)

  -- no more turns begin than so many
  abbrev Begins : ℕ → Config → Type 0
  Begins turns c = (k : ℕ) → turns_begun K k c ≤ turns

  -- ---- a turn that is over after some steps, and the reaction then

  module _ (turns : ℕ) (between : (n : ℕ) (r : Residual) (w : World) → ConfigFits K (Between n r w) → Counted (Between n r w) → Begins turns (Between n r w) → ReactionOver (Between n r w)) where
    after_turn : (count : ℕ) (c : Config) → is_turning (steps K count c) ≡ false → ConfigFits K c → Counted c → Begins turns c → ReactionOver c
    unfolding steps turns_begun
    after_turn zero (Turning n f w) e h m b = absurd (false≢true (sym e))
    after_turn (suc count) (Turning n f w) e h m b =
        turn_next n f w (after_turn count (next K (Turning n f w)) e (next_fits K kept.proper (Turning n f w) h) (next_kept K (Turning n f w) m) (λ k. b (suc k)))
    after_turn count (Between n r w) e h m b = between n r w h m b
    after_turn count (Waiting r w) e h m b = over_now (Waiting r w) refl
    after_turn count (Ended v w) e h m b = over_now (Ended v w) refl
    after_turn count (Faulted x w) e h m b = over_now (Faulted x w) refl

    turning : (n : ℕ) (f : Focus Act) (w : World) → ConfigFits K (Turning n f w) → Counted (Turning n f w) → Begins turns (Turning n f w) → ReactionOver (Turning n f w)
    turning n f w h m b = let t = turn_ends K n f w kept leave h m in after_turn t.0 (Turning n f w) t.1 h m b

  -- ---- between two turns: the levels close, or a turn begins

  module _ (turns : ℕ) (turn : (n : ℕ) (f : Focus Act) (w : World) → ConfigFits K (Turning n f w) → Counted (Turning n f w) → ((k : ℕ) → suc (turns_begun K k (Turning n f w)) ≤ turns) → ReactionOver (Turning n f w)) where
    closes : (n : ℕ) (o : Option (Focus Act)) (r : Residual) (w : World) → ConfigFits K (chosen_at n o r w) → Counted (chosen_at n o r w)
        → ((k : ℕ) → begins (chosen_at n o r w) + turns_begun K k (chosen_at n o r w) ≤ turns)
        → ((i : ℕ) → n ≡ suc i → (u : World) → ConfigFits K (Between i r u) → Counted (Between i r u) → Begins turns (Between i r u) → ReactionOver (Between i r u)) → ReactionOver (chosen_at n o r w)
    closes n (Some f) r w h m b ih = turn n f _ h m (λ k. (let z = b k in omega (arith, z)))
    closes zero None r w h m b ih = over_now (Waiting r w) refl
    closes (suc i) None r w h m b ih = ih i refl _ h m (λ k. (let z = b k in omega (arith, z)))

    step_next : (n : ℕ) (r : Residual) (w : World) → ConfigFits K (Between n r w) → Counted (Between n r w) → Begins turns (Between n r w)
        → ((i : ℕ) → n ≡ suc i → (u : World) → ConfigFits K (Between i r u) → Counted (Between i r u) → Begins turns (Between i r u) → ReactionOver (Between i r u)) → ReactionOver (Between n r w)
    unfolding next turns_begun
    step_next n r w h m b ih = level_next n r w (closes n (choose Act (runs_at n) r) r w (next_fits K kept.proper (Between n r w) h) (next_kept K (Between n r w) m) (λ k. b (suc k)) ih)

    levels : (n : ℕ) (r : Residual) (w : World) → ConfigFits K (Between n r w) → Counted (Between n r w) → Begins turns (Between n r w) → ReactionOver (Between n r w)
    levels zero r w h m b = step_next zero r w h m b (λ i e. absurd (cc))
    levels (suc n) r w h m b = step_next (suc n) r w h m b (λ i e u x y z.
        (let j : i ≡ n = omega (arith, e) in subst (λ l. ReactionOver (Between l r u)) (sym j) (levels n r u (subst (λ l. ConfigFits K (Between l r u)) j x) y (subst (λ l. Begins turns (Between l r u)) j z))))

  pub reaction_ends : (turns n : ℕ) (r : Residual) (w : World) → ConfigFits K (Between n r w) → Counted (Between n r w) → Begins turns (Between n r w) → ReactionOver (Between n r w)
  reaction_ends zero = levels zero (λ n f w h m b. (let z = b 0 in absurd (omega (arith, z))))
  reaction_ends (suc turns) = levels (suc turns) (λ n f w h m b. turning turns (reaction_ends turns) n f w h m (λ k. (let z = b k in omega (arith, z))))
