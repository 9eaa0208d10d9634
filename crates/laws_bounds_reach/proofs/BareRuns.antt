-- Reactions, commands and runs spawn nothing in a block that spawns nothing.
use Rattle.std.proofs.Common.{◌≡◌, refl, sym, subst, ℕ, zero, suc, ◌+◌, ◌-◌, ℤ, pos, nat_le, Bool, true, false, List, [], ◌∷◌, Option, Some, None}
use Rattle.ceu_base.specs.declared.kinds.Pos.{Pos}
use Rattle.ceu_base.specs.declared.kinds.Fault.{Fault}
use Rattle.ceu_tree.specs.declared.command.Command.{Command}
use Rattle.ceu_tree.specs.declared.command.Command.TheVariants.{Input, Advance, Idle}
use Rattle.ceu_tree.specs.declared.kernel.Kernel.{Kernel}
use Rattle.ceu_tree.specs.Residual.{Program, Act, Finish, Residual, Run, InAsync}
use Rattle.ceu_tree.specs.Focus.{Focus, plug, leaf, choose}
use Rattle.ceu_tree.specs.World.{World}
use Rattle.ceu_tree.specs.Wake.{each_leaf, leaves, runs_at, by_input, later, by_time, least_time, Unserved, unserved, new_round}
use Rattle.ceu_tree.specs.Around.{Outcome, Goes, Rests, Raises, Fails, Ends}
use Rattle.ceu_tree.specs.Step.{stepped}
use Rattle.ceu_tree.specs.Proper.{is_proper}
use Rattle.ceu_tree.specs.Run.{Config, Turning, Between, Waiting, Ended, Faulted, config_of, unless_failed, level_closed, chosen_at, next, steps, booted, reacts, input, advance, Served, Unfinished, Turned, Done, Failed, after_serving, served, idle_turn, idle_turns, done, all_done, run}
use Rattle.laws_meaning_basics.proofs.FocusBalance.{Found, FoundIn, choose_found}
use Rattle.laws_meaning_basics.specs.Shape.{program_part, Fits, ConfigFits}
use Rattle.laws_meaning_basics.proofs.Leaves.{leaves_fit, by_input_fits, by_time_fits, later_fits, round_fits}
use Rattle.laws_meaning_basics.proofs.RunFits.{next_fits, steps_fit, booted_fits, idle_turn_fits, done_fits}
use Rattle.laws_bounds_reach.specs.Standing.{pools_bare, focus_bare, ConfigBare}
use Rattle.laws_bounds_reach.proofs.BareTrees.{plugged, unplugged, leaves_kept}
use Rattle.laws_bounds_reach.proofs.BareSteps.{OutcomeBare, stepped_bare}
use Rattle.laws_bounds_reach.proofs.Begins.{async_fits}
use Rattle.laws_bounds_reach.proofs.Within.{bare_input, bare_time, bare_later}

pub bare_round : (r : Residual) → pools_bare r → pools_bare (new_round r)
unfolding pools_bare
bare_round (InAsync s served r) h = tt
bare_round r h = h

-- ---- a step

config_bare : (n : ℕ) (x : Outcome) (w : World) → OutcomeBare x → ConfigBare (config_of n x w)
unfolding pools_bare
config_bare n (Goes g) w h = h
config_bare n (Rests r) w h = h
config_bare n (Raises r) w h = h
config_bare n (Fails e r) w h = tt
config_bare n (Ends v) w h = tt
config_bare n x w h = tt

unless_bare : (w : World) (c : Config) → ConfigBare c → ConfigBare (unless_failed w c)
unless_bare w c h = go w.fault
  where
    go : (o : Option (Fault × Pos)) → ConfigBare (elim o [ Some e ↦ Faulted e w | None ↦ c ])
    go None = h
    go (Some e) = tt

closed_bare : (n : ℕ) (r : Residual) (w : World) → pools_bare r → ConfigBare (level_closed n r w)
closed_bare zero r w h = h
closed_bare (suc n) r w h = h

chosen_in : {A : Type 0} (pick : Residual → Option A) (r : Residual) (f : Focus A) → Found A pick r f → pools_bare r → focus_bare f
chosen_in pick r f x h = (unplugged f x.was (subst pools_bare (sym x.plugs) h)).0

chosen_bare : (n : ℕ) (r : Residual) (w : World) (o : Option (Focus Act)) → FoundIn Act (runs_at n) r o → pools_bare r → ConfigBare (chosen_at n o r w)
chosen_bare n r w None x h = closed_bare n r w h
chosen_bare n r w (Some f) x h = chosen_in (runs_at n) r f x h

pub booted_bare : (K : Kernel) → ConfigBare (booted K)
unfolding pools_bare
booted_bare K = tt

module _ (K : Kernel) (proper : is_proper K ≡ true) where
  pub next_bare : (c : Config) → ConfigFits K c → ConfigBare c → ConfigBare (next K c)
  unfolding next
  next_bare (Turning n f w) t h =
      let m = stepped K n Program f w in unless_bare m.world (config_of n m.outcome m.world) (config_bare n m.outcome m.world (stepped_bare K (suc n) n Program (program_part K) f w t h))
  next_bare (Between n r w) t h = chosen_bare n r w (choose Act (runs_at n) r) (choose_found Act (runs_at n) r) h
  next_bare (Waiting r w) t h = h
  next_bare (Ended v w) t h = h
  next_bare (Faulted e w) t h = h

  pub steps_bare : (k : ℕ) (c : Config) → ConfigFits K c → ConfigBare c → ConfigBare (steps K k c)
  unfolding steps
  steps_bare zero c t h = h
  steps_bare (suc k) (Turning n f w) t h = steps_bare k (next K (Turning n f w)) (next_fits K proper (Turning n f w) t) (next_bare (Turning n f w) t h)
  steps_bare (suc k) (Between n r w) t h = steps_bare k (next K (Between n r w)) (next_fits K proper (Between n r w) t) (next_bare (Between n r w) t h)
  steps_bare (suc k) (Waiting r w) t h = h
  steps_bare (suc k) (Ended v w) t h = h
  steps_bare (suc k) (Faulted e w) t h = h

  -- ---- commands

  input_bare : (k event : ℕ) (v : ℤ) (c : Config) → ConfigFits K c → ConfigBare c → ConfigBare (input K k event v c)
  input_bare k event v (Waiting r w) t h =
      steps_bare k (Between 0 (each_leaf (by_input event v) r) w) (leaves_fit K 0 1 (by_input event v) (by_input_fits K event v) t) (leaves_kept (by_input event v) (bare_input event v) r h)
  input_bare k event v (Turning n f w) t h = h
  input_bare k event v (Between n r w) t h = h
  input_bare k event v (Ended x w) t h = h
  input_bare k event v (Faulted e w) t h = h

  advance_bare : (k j d : ℕ) (c : Config) → ConfigFits K c → ConfigBare c → ConfigBare (advance K k j d c)
  unfolding advance
  advance_bare k zero d c t h = h
  advance_bare k (suc j) d (Waiting r w) t h = go (least_time (leaves r)) (λ m. advance_bare k j (d - m) (timed m) (timed_fits m) (timed_bare m))
    where
      woken : ℕ → Residual
      woken m = each_leaf (by_time (d - m)) (each_leaf (later m) r)

      timed : ℕ → Config
      timed m = reacts K k (woken m) w

      fits : (m : ℕ) → Fits K 1 (program_part K) (woken m)
      fits m = leaves_fit K 0 1 (by_time (d - m)) (by_time_fits K (d - m)) (leaves_fit K 0 0 (later m) (later_fits K m) t)

      timed_fits : (m : ℕ) → ConfigFits K (timed m)
      timed_fits m = steps_fit K proper k (Between 0 (woken m) w) (fits m)

      timed_bare : (m : ℕ) → ConfigBare (timed m)
      timed_bare m = steps_bare k (Between 0 (woken m) w) (fits m) (leaves_kept (by_time (d - m)) (bare_time (d - m)) (each_leaf (later m) r) (leaves_kept (later m) (bare_later m) r h))

      go : (o : Option ℕ) → ((m : ℕ) → ConfigBare (advance K k j (d - m) (timed m))) → ConfigBare (elim o [
        | None ↦ Waiting r w
        | Some m ↦ elim (nat_le m d) [
          | true ↦ advance K k j (d - m) (timed m)
          | false ↦ Waiting (each_leaf (later d) r) w
        ]
      ])
      go None ih = h
      go (Some m) ih = inner (nat_le m d)
        where
          inner : (b : Bool) → ConfigBare (elim b [ true ↦ advance K k j (d - m) (timed m) | false ↦ Waiting (each_leaf (later d) r) w ])
          inner true = ih m
          inner false = leaves_kept (later d) (bare_later d) r h
  advance_bare k (suc j) d (Turning n f w) t h = h
  advance_bare k (suc j) d (Between n r w) t h = h
  advance_bare k (suc j) d (Ended x w) t h = h
  advance_bare k (suc j) d (Faulted e w) t h = h

  -- ---- asyncs

  after_bare : (k : ℕ) (g : Focus Unserved) (x : Served) (r : Residual) (w : World) → focus_bare g → pools_bare r → Fits K 1 (program_part K) (plug g (Run 0 (Finish (leaf g).stmt (pos 0)))) → ConfigBare (after_serving K k g x r w)
  unfolding pools_bare
  after_bare k g Unfinished r w a h t = h
  after_bare k g (Turned q u) r w a h t = plugged g (InAsync (leaf g).stmt true q) a tt
  after_bare k g (Done u) r w a h t = steps_bare k (Between 0 (plug g (Run 0 (Finish (leaf g).stmt (pos 0)))) u) t (plugged g (Run 0 (Finish (leaf g).stmt (pos 0))) a tt)
  after_bare k g (Failed e q u) r w a h t = tt

  served_bare : (k : ℕ) (o : Option (Focus Unserved)) (r : Residual) (w : World) → choose Unserved unserved r ≡ o → FoundIn Unserved unserved r o → Fits K 0 (program_part K) r → pools_bare r → ConfigBare (served K k o r w)
  served_bare k None r w e x t h = h
  served_bare k (Some g) r w e x t h = after_bare k g _ r w (chosen_in unserved r g x h) h (async_fits K g t e)

  idle_turn_bare : (k : ℕ) (c : Config) → ConfigFits K c → ConfigBare c → ConfigBare (idle_turn K k c)
  idle_turn_bare k (Waiting r w) t h = go (choose Unserved unserved r) refl (choose_found Unserved unserved r)
    where
      again : Residual
      again = each_leaf new_round r

      go : (o : Option (Focus Unserved)) → choose Unserved unserved r ≡ o → FoundIn Unserved unserved r o → ConfigBare (elim o [ Some g ↦ served K k (Some g) r w | None ↦ served K k (choose Unserved unserved again) again w ])
      go (Some g) e x = served_bare k (Some g) r w e x t h
      go None e x = served_bare k (choose Unserved unserved again) again w refl (choose_found Unserved unserved again) (leaves_fit K 0 0 new_round (round_fits K) t) (leaves_kept new_round bare_round r h)
  idle_turn_bare k (Turning n f w) t h = h
  idle_turn_bare k (Between n r w) t h = h
  idle_turn_bare k (Ended x w) t h = h
  idle_turn_bare k (Faulted e w) t h = h

  idle_turns_bare : (k j : ℕ) (c : Config) → ConfigFits K c → ConfigBare c → ConfigBare (idle_turns K k j c)
  idle_turns_bare k zero c t h = h
  idle_turns_bare k (suc j) c t h = idle_turns_bare k j (idle_turn K k c) (idle_turn_fits K proper k c t) (idle_turn_bare k c t h)

  pub done_bare : (k : ℕ) (x : Command) (c : Config) → ConfigFits K c → ConfigBare c → ConfigBare (done K k x c)
  unfolding done
  done_bare k (Input event v) c t h = input_bare k event v c t h
  done_bare k (Advance us) c t h = advance_bare k (us + 1) us c t h
  done_bare k (Idle j) c t h = idle_turns_bare k j c t h

  all_bare : (k : ℕ) (xs : List Command) (c : Config) → ConfigFits K c → ConfigBare c → ConfigBare (all_done K k xs c)
  unfolding all_done
  all_bare k [] c t h = h
  all_bare k (x ∷ xs) c t h = all_bare k xs (done K k x c) (done_fits K proper k x c t) (done_bare k x c t h)

  pub run_bare : (k : ℕ) (xs : List Command) → ConfigBare (run K k xs)
  unfolding run
  run_bare k xs = all_bare k xs (steps K k (booted K)) (steps_fit K proper k (booted K) (booted_fits K proper)) (steps_bare k (booted K) (booted_fits K proper) (booted_bare K))
