-- Commands and runs of a program of one trail end, and each reaction of them is at level 0.
use Rattle.std.proofs.Common.{◌≡◌, refl, sym, ap, subst, ◌≤◌, ℕ, zero, suc, ◌+◌, ◌-◌, ℤ, nat_le, Bool, true, false, List, [], ◌∷◌, Option, Some, None, arith}
use Rattle.ceu_base.specs.declared.kinds.Mark.{Mark}
use Rattle.ceu_tree.specs.declared.command.Command.{Command}
use Rattle.ceu_tree.specs.declared.command.Command.TheVariants.{Input, Advance, Idle}
use Rattle.ceu_tree.specs.declared.kernel.Kernel.{Kernel}
use Rattle.ceu_tree.specs.Residual.{Act, Residual, Run, WaitInput, WaitTime, WaitForever, Block, Open, Loop, no_instance}
use Rattle.ceu_tree.specs.Focus.{Focus, OfBlock, OfOpen, OfLoop, under, choose}
use Rattle.ceu_tree.specs.World.{World}
use Rattle.ceu_tree.specs.Wake.{each_leaf, leaves, runs_at, by_input, later, by_time, least_time, Unserved, unserved, new_round}
use Rattle.ceu_tree.specs.Costs.{bounds}
use Rattle.ceu_tree.specs.Proper.{is_proper}
use Rattle.ceu_tree.specs.Run.{Config, Turning, Between, Waiting, Ended, Faulted, chosen_at, next, steps, is_reacting, booted, reacts, input, advance, served, idle_turn, idle_turns, done, all_done, run, world_of, Status, status_of, Runs}
use Rattle.laws_meaning_basics.specs.Shape.{Fits, ConfigFits, program_part}
use Rattle.laws_meaning_basics.proofs.Leaves.{leaves_fit, by_input_fits, by_time_fits, later_fits, round_fits}
use Rattle.laws_meaning_basics.proofs.RunFits.{next_fits, steps_fit, booted_fits, done_fits, idle_turn_fits}
use Rattle.ceu_single.specs.Single.{is_single}
use Rattle.ceu_endings.specs.Counted.{Counted, tree_counted}
use Rattle.ceu_endings.specs.OneTrail.{OneLeaf}
use Rattle.ceu_endings.specs.Laws.{AtLevelZero}
use Rattle.ceu_endings.specs.Ends.{longest_run, EndsTurns}
use Rattle.ceu_endings.proofs.CountedTrees.{leaves_kept}
use Rattle.ceu_endings.proofs.CountedRuns.{by_input_kept, by_time_kept, later_kept, steps_kept, done_kept}
use Rattle.ceu_endings.proofs.Shapes.{one_leaf, no_codes}
use Rattle.ceu_endings.proofs.Calm.{Good, steps_good}
use Rattle.ceu_endings.proofs.Reacting.{reaction_ends}

-- ---- one level

good_level : (c : Config) → Good c → AtLevelZero c
good_level (Turning n f w) g = g
good_level (Between n r w) g = g.0
good_level (Waiting r w) g = tt
good_level (Ended v w) g = tt
good_level (Faulted e w) g = tt

chosen_good : (o : Option (Focus Act)) (r : Residual) (w : World) → Good (chosen_at 0 o r w)
chosen_good None r w = tt
chosen_good (Some f) r w = refl

pub one_level : (K : Kernel) (k : ℕ) (r : Residual) (w : World) → is_proper K ≡ true → is_single K ≡ true → ConfigFits K (Between 0 r w) → AtLevelZero (steps K k (Between 0 r w))
unfolding steps next
one_level K zero r w proper single h = refl
one_level K (suc k) r w proper single h =
    let c = next K (Between 0 r w) in good_level (steps K k c) (steps_good K proper single k c (next_fits K proper (Between 0 r w) h) (chosen_good (choose Act (runs_at 0) r) r w))

pub one_turn_in_bounds : (K : Kernel) → 1 ≤ (bounds K).turns
unfolding bounds
one_turn_in_bounds K = omega arith

-- ---- no async

no_async : (top : ℕ) (r : Residual) → OneLeaf top r → choose Unserved unserved r ≡ None
unfolding OneLeaf choose
no_async top (Block b fin all r rest) h = subst (λ i. choose Unserved unserved (Block b fin i r rest) ≡ None) (sym h.1) (ap (λ o. under (OfBlock b fin no_instance rest) o) (no_async top r h.2))
no_async top (Open s r) h = ap (under (OfOpen s)) (no_async top r h)
no_async top (Loop s c r) h = ap (under (OfLoop s c)) (no_async top r h)
no_async top (Run n a) h = refl
no_async top (WaitInput k s) h = refl
no_async top (WaitTime d s) h = refl
no_async top (WaitForever s) h = refl
no_async top r h = absurd h

module _ (K : Kernel) (ends : EndsTurns K) where
  reacts_end : (r : Residual) (w : World) → Fits K 1 (program_part K) r → tree_counted r → is_reacting (reacts K (longest_run + 3) r w) ≡ false
  reacts_end r w h c = reaction_ends K r w ends h c

  input_ends : (event : ℕ) (v : ℤ) (c : Config) → ConfigFits K c → Counted c → is_reacting c ≡ false → is_reacting (input K (longest_run + 3) event v c) ≡ false
  input_ends event v (Waiting r w) h c e = reacts_end (each_leaf (by_input event v) r) w (leaves_fit K 0 1 (by_input event v) (by_input_fits K event v) h) (leaves_kept (by_input event v) (by_input_kept event v) r c)
  input_ends event v (Turning n f w) h c e = e
  input_ends event v (Between n r w) h c e = e
  input_ends event v (Ended x w) h c e = e
  input_ends event v (Faulted x w) h c e = e

  advance_ends : (j d : ℕ) (c : Config) → ConfigFits K c → Counted c → is_reacting c ≡ false → is_reacting (advance K (longest_run + 3) j d c) ≡ false
  unfolding advance
  advance_ends zero d c h x e = e
  advance_ends (suc j) d (Waiting r w) h x e = go (least_time (leaves r)) (λ m. advance_ends j (d - m) (timed m) (steps_fit K ends.proper (longest_run + 3) _ (timed_fits m)) (steps_kept K (longest_run + 3) _ (timed_counted m)) (reacts_end (turned m) w (timed_fits m) (timed_counted m)))
    where
      turned : ℕ → Residual
      turned m = each_leaf (by_time (d - m)) (each_leaf (later m) r)

      timed : ℕ → Config
      timed m = reacts K (longest_run + 3) (turned m) w

      timed_fits : (m : ℕ) → Fits K 1 (program_part K) (turned m)
      timed_fits m = leaves_fit K 0 1 (by_time (d - m)) (by_time_fits K (d - m)) (leaves_fit K 0 0 (later m) (later_fits K m) h)

      timed_counted : (m : ℕ) → tree_counted (turned m)
      timed_counted m = leaves_kept (by_time (d - m)) (by_time_kept (d - m)) (each_leaf (later m) r) (leaves_kept (later m) (later_kept m) r x)

      go : (o : Option ℕ) → ((m : ℕ) → is_reacting (advance K (longest_run + 3) j (d - m) (timed m)) ≡ false) → is_reacting (elim o [
        | None ↦ Waiting r w
        | Some m ↦ elim (nat_le m d) [
          | true ↦ advance K (longest_run + 3) j (d - m) (timed m)
          | false ↦ Waiting (each_leaf (later d) r) w
        ]
      ]) ≡ false
      go None ih = refl
      go (Some m) ih = inner (nat_le m d)
        where
          inner : (b : Bool) → is_reacting (elim b [ true ↦ advance K (longest_run + 3) j (d - m) (timed m) | false ↦ Waiting (each_leaf (later d) r) w ]) ≡ false
          inner true = ih m
          inner false = refl
  advance_ends (suc j) d (Turning n f w) h x e = e
  advance_ends (suc j) d (Between n r w) h x e = e
  advance_ends (suc j) d (Ended v w) h x e = e
  advance_ends (suc j) d (Faulted z w) h x e = e

  leaf_of : (r : Residual) → Fits K 0 (program_part K) r → OneLeaf 0 r
  leaf_of r h = let a = no_codes K ends.single in one_leaf K a.0 h a.1

  idle_ends : (k : ℕ) (c : Config) → ConfigFits K c → is_reacting c ≡ false → is_reacting (idle_turn K k c) ≡ false
  idle_ends k (Waiting r w) h e = go (choose Unserved unserved r) (no_async 0 r (leaf_of r h))
    where
      again : Residual
      again = each_leaf new_round r

      none : choose Unserved unserved again ≡ None
      none = no_async 0 again (leaf_of again (leaves_fit K 0 0 new_round (round_fits K) h))

      go : (o : Option (Focus Unserved)) → o ≡ None → is_reacting (elim o [ Some g ↦ served K k (Some g) r w | None ↦ served K k (choose Unserved unserved again) again w ]) ≡ false
      go None q = subst (λ p. is_reacting (served K k p again w) ≡ false) (sym none) refl
      go (Some g) q = absurd (cc)
  idle_ends k (Turning n f w) h e = e
  idle_ends k (Between n r w) h e = e
  idle_ends k (Ended v w) h e = e
  idle_ends k (Faulted z w) h e = e

  idles_end : (k j : ℕ) (c : Config) → ConfigFits K c → is_reacting c ≡ false → is_reacting (idle_turns K k j c) ≡ false
  idles_end k zero c h e = e
  idles_end k (suc j) c h e = idles_end k j (idle_turn K k c) (idle_turn_fits K ends.proper k c h) (idle_ends k c h e)

  pub command_ends : (x : Command) (c : Config) → ConfigFits K c → Counted c → is_reacting c ≡ false → is_reacting (done K (longest_run + 3) x c) ≡ false
  unfolding done
  command_ends (Input event v) c h x e = input_ends event v c h x e
  command_ends (Advance us) c h x e = advance_ends (us + 1) us c h x e
  command_ends (Idle j) c h x e = idles_end (longest_run + 3) j c h e

  all_end : (xs : List Command) (c : Config) → ConfigFits K c → Counted c → is_reacting c ≡ false → is_reacting (all_done K (longest_run + 3) xs c) ≡ false
  unfolding all_done
  all_end [] c h x e = e
  all_end (y ∷ ys) c h x e =
      let n = longest_run + 3 in all_end ys (done K n y c) (done_fits K ends.proper n y c h) (done_kept K n y c x) (command_ends y c h x e)

  pub run_ends : (xs : List Command) → is_reacting (run K (longest_run + 3) xs) ≡ false
  unfolding run tree_counted
  run_ends xs =
      let n = longest_run + 3 in
      all_end xs (steps K n (booted K)) (steps_fit K ends.proper n (booted K) (booted_fits K ends.proper)) (steps_kept K n (booted K) tt) (reaction_ends K _ _ ends (booted_fits K ends.proper) tt)

  pub run_outcome : (xs : List Command) → (marks : List Mark) × (status : Status) × Runs K xs marks status
  run_outcome xs = let c = run K (longest_run + 3) xs in ((world_of c).marks, status_of c, record { bound = longest_run + 3; marks_are = refl; status_is = refl; over = run_ends xs })
