-- Reactions, commands and runs keep the counters within their bounds.
use Rattle.std.proofs.Common.{◌≡◌, refl, sym, ap, subst, ℕ, zero, suc, ◌+◌, ◌-◌, min, ℤ, pos, nat_le, Bool, true, false, if◌then◌else◌, ◌==◌, List, [], ◌∷◌, Option, Some, None}
use Rattle.ceu_base.specs.declared.kinds.Pos.{Pos}
use Rattle.ceu_base.specs.declared.kinds.Fault.{Fault}
use Rattle.ceu_tree.specs.declared.command.Command.{Command}
use Rattle.ceu_tree.specs.declared.command.Command.TheVariants.{Input, Advance, Idle}
use Rattle.ceu_tree.specs.declared.kernel.Kernel.{Kernel}
use Rattle.ceu_tree.specs.Residual.{Body, Program, Act, Finish, Again, Residual, Run, WaitInput, WaitTime, InAsync}
use Rattle.ceu_tree.specs.Focus.{Focus, plug, leaf, body_of, choose}
use Rattle.ceu_tree.specs.World.{World}
use Rattle.ceu_tree.specs.Wake.{each_leaf, leaves, runs_at, by_input, later, by_time, least_time, Unserved, unserved, new_round}
use Rattle.ceu_tree.specs.Around.{Outcome, Goes, Rests, Raises, Fails, Ends}
use Rattle.ceu_tree.specs.Step.{stepped}
use Rattle.ceu_tree.specs.Run.{Config, Turning, Between, Waiting, Ended, Faulted, config_of, unless_failed, level_closed, chosen_at, next, steps, booted, reacts, input, advance, is_again, Served, Unfinished, Turned, Done, Failed, serve, serve_first, after_serving, served, idle_turn, idle_turns, done, all_done, run}
use Rattle.laws_meaning_basics.proofs.FocusBalance.{Found, FoundIn, choose_found}
use Rattle.ceu_endings.specs.Counted.{tree_counted, focus_counted, Counted}
use Rattle.ceu_endings.proofs.CountedTrees.{plugged, unplugged, leaves_kept}
use Rattle.ceu_endings.proofs.CountedSteps.{OutcomeCounted, stepped_fine}

-- ---- leaves that become others

pub by_time_kept : (delay : ℕ) (r : Residual) → tree_counted r → tree_counted (by_time delay r)
unfolding tree_counted
by_time_kept delay (WaitTime left s) h = go (left == 0)
  where
    go : (b : Bool) → tree_counted (if b then Run 0 (Finish s (pos (min delay 2147483647))) else WaitTime left s)
    go true = tt
    go false = tt
by_time_kept delay r h = h

pub later_kept : (d : ℕ) (r : Residual) → tree_counted r → tree_counted (later d r)
unfolding tree_counted
later_kept d (WaitTime left s) h = tt
later_kept d r h = h

pub by_input_kept : (k : ℕ) (v : ℤ) (r : Residual) → tree_counted r → tree_counted (by_input k v r)
unfolding tree_counted
by_input_kept k v (WaitInput m s) h = go (m == k)
  where
    go : (b : Bool) → tree_counted (if b then Run 0 (Finish s v) else WaitInput m s)
    go true = tt
    go false = tt
by_input_kept k v r h = h

pub round_kept : (r : Residual) → tree_counted r → tree_counted (new_round r)
unfolding tree_counted
round_kept (InAsync s served r) h = h
round_kept r h = h

-- ---- a step

config_kept : (n : ℕ) (x : Outcome) (w : World) → OutcomeCounted x → Counted (config_of n x w)
unfolding tree_counted
config_kept n (Goes g) w h = h
config_kept n (Rests r) w h = h
config_kept n (Raises r) w h = h
config_kept n (Fails e r) w h = tt
config_kept n (Ends v) w h = tt
config_kept n x w h = tt

unless_kept : (w : World) (c : Config) → Counted c → Counted (unless_failed w c)
unless_kept w c h = go w.fault
  where
    go : (o : Option (Fault × Pos)) → Counted (elim o [ Some e ↦ Faulted e w | None ↦ c ])
    go None = h
    go (Some e) = tt

closed_kept : (n : ℕ) (r : Residual) (w : World) → tree_counted r → Counted (level_closed n r w)
closed_kept zero r w h = h
closed_kept (suc n) r w h = h

chosen_in : {A : Type 0} (pick : Residual → Option A) (r : Residual) (f : Focus A) → Found A pick r f → tree_counted r → focus_counted f
chosen_in pick r f x h = (unplugged f x.was (subst tree_counted (sym x.plugs) h)).0

chosen_kept : (n : ℕ) (r : Residual) (w : World) (o : Option (Focus Act)) → FoundIn Act (runs_at n) r o → tree_counted r → Counted (chosen_at n o r w)
chosen_kept n r w None x h = closed_kept n r w h
chosen_kept n r w (Some f) x h = chosen_in (runs_at n) r f x h

module _ (K : Kernel) where
  pub next_kept : (c : Config) → Counted c → Counted (next K c)
  unfolding next
  next_kept (Turning n f w) h = let m = stepped K n Program f w in unless_kept m.world (config_of n m.outcome m.world) (config_kept n m.outcome m.world (stepped_fine K n Program f w h))
  next_kept (Between n r w) h = chosen_kept n r w (choose Act (runs_at n) r) (choose_found Act (runs_at n) r) h
  next_kept (Waiting r w) h = h
  next_kept (Ended v w) h = h
  next_kept (Faulted e w) h = h

  pub steps_kept : (k : ℕ) (c : Config) → Counted c → Counted (steps K k c)
  unfolding steps
  steps_kept zero c h = h
  steps_kept (suc k) (Turning n f w) h = steps_kept k (next K (Turning n f w)) (next_kept (Turning n f w) h)
  steps_kept (suc k) (Between n r w) h = steps_kept k (next K (Between n r w)) (next_kept (Between n r w) h)
  steps_kept (suc k) (Waiting r w) h = h
  steps_kept (suc k) (Ended v w) h = h
  steps_kept (suc k) (Faulted e w) h = h

  input_kept : (k event : ℕ) (v : ℤ) (c : Config) → Counted c → Counted (input K k event v c)
  input_kept k event v (Waiting r w) h = steps_kept k (Between 0 (each_leaf (by_input event v) r) w) (leaves_kept (by_input event v) (by_input_kept event v) r h)
  input_kept k event v (Turning n f w) h = h
  input_kept k event v (Between n r w) h = h
  input_kept k event v (Ended x w) h = h
  input_kept k event v (Faulted e w) h = h

  advance_kept : (k j d : ℕ) (c : Config) → Counted c → Counted (advance K k j d c)
  unfolding advance
  advance_kept k zero d c h = h
  advance_kept k (suc j) d (Waiting r w) h = go (least_time (leaves r)) refl (λ m. advance_kept k j (d - m) (timed m) (timed_in m))
    where
      timed : ℕ → Config
      timed m = reacts K k (each_leaf (by_time (d - m)) (each_leaf (later m) r)) w

      timed_in : (m : ℕ) → Counted (timed m)
      timed_in m = steps_kept k (Between 0 (each_leaf (by_time (d - m)) (each_leaf (later m) r)) w) (leaves_kept (by_time (d - m)) (by_time_kept (d - m)) (each_leaf (later m) r) (leaves_kept (later m) (later_kept m) r h))

      go : (o : Option ℕ) → least_time (leaves r) ≡ o → ((m : ℕ) → Counted (advance K k j (d - m) (timed m))) → Counted (elim o [
        | None ↦ Waiting r w
        | Some m ↦ elim (nat_le m d) [
          | true ↦ advance K k j (d - m) (timed m)
          | false ↦ Waiting (each_leaf (later d) r) w
        ]
      ])
      go None e ih = h
      go (Some m) e ih = inner (nat_le m d) refl
        where
          inner : (b : Bool) → nat_le m d ≡ b → Counted (elim b [ true ↦ advance K k j (d - m) (timed m) | false ↦ Waiting (each_leaf (later d) r) w ])
          inner true q = ih m
          inner false q = leaves_kept (later d) (later_kept d) r h
  advance_kept k (suc j) d (Turning n f w) h = h
  advance_kept k (suc j) d (Between n r w) h = h
  advance_kept k (suc j) d (Ended x w) h = h
  advance_kept k (suc j) d (Faulted e w) h = h

  -- ---- asyncs

  abbrev ServedCounted : Served → Type 0
  ServedCounted (Turned r w) = tree_counted r
  ServedCounted x = Unit {0}

  serve_kept : (k : ℕ) (root : Body) (f : Focus Act) (w : World) → focus_counted f → ServedCounted (serve K k root f w)
  unfolding serve tree_counted
  serve_kept zero root f w h = tt
  serve_kept (suc k) root f w h = go (stepped K 0 root f w).outcome (stepped_fine K 0 root f w h) (λ g x. serve_kept k root g u x)
    where
      u : World
      u = (stepped K 0 root f w).world

      go : (x : Outcome) → OutcomeCounted x → ((g : Focus Act) → focus_counted g → ServedCounted (serve K k root g u)) → ServedCounted (elim x [
        | Goes g ↦ elim (is_again (leaf g)) [ true ↦ Turned (plug g (Run 0 Again)) u | false ↦ serve K k root g u ]
        | Fails e r ↦ Failed e r u
        | Rests r ↦ Turned r u
        | Raises r ↦ Turned r u
        | _ ↦ Done u
      ])
      go (Goes g) x ih = inner (is_again (leaf g))
        where
          inner : (b : Bool) → ServedCounted (elim b [ true ↦ Turned (plug g (Run 0 Again)) u | false ↦ serve K k root g u ])
          inner true = plugged g (Run 0 Again) x tt
          inner false = ih g x
      go (Rests r) x ih = x
      go (Raises r) x ih = x
      go y x ih = tt

  first_kept : (k : ℕ) (root : Body) (o : Option (Focus Act)) (r : Residual) (w : World) → FoundIn Act (runs_at 0) r o → tree_counted r → ServedCounted (serve_first K k root o r w)
  first_kept k root None r w x h = h
  first_kept k root (Some f) r w x h = serve_kept k root f w (chosen_in (runs_at 0) r f x h)

  unserved_in : (r : Residual) (x : Unserved) → unserved r ≡ Some x → tree_counted r → tree_counted x.inner
  unfolding tree_counted
  unserved_in (InAsync s false r) x e h = subst tree_counted (ap (λ o. elim o [ None ↦ r | Some y ↦ y.inner ]) e) h
  unserved_in r x e h = absurd (cc)

  after_kept : (k : ℕ) (g : Focus Unserved) (x : Served) (r : Residual) (w : World) → focus_counted g → tree_counted r → ServedCounted x → Counted (after_serving K k g x r w)
  unfolding tree_counted
  after_kept k g Unfinished r w a h s = h
  after_kept k g (Turned q u) r w a h s = plugged g (InAsync (leaf g).stmt true q) a s
  after_kept k g (Done u) r w a h s = steps_kept k (Between 0 (plug g (Run 0 (Finish (leaf g).stmt (pos 0)))) u) (plugged g (Run 0 (Finish (leaf g).stmt (pos 0))) a tt)
  after_kept k g (Failed e q u) r w a h s = tt

  served_kept : (k : ℕ) (o : Option (Focus Unserved)) (r : Residual) (w : World) → FoundIn Unserved unserved r o → tree_counted r → Counted (served K k o r w)
  served_kept k None r w x h = h
  served_kept k (Some g) r w x h =
      let a = unplugged g x.was (subst tree_counted (sym x.plugs) h) in
      after_kept k g _ r w a.0 h (first_kept k (body_of g Program) (choose Act (runs_at 0) (leaf g).inner) (leaf g).inner w (choose_found Act (runs_at 0) (leaf g).inner) (unserved_in x.was (leaf g) x.picked a.1))

  idle_turn_kept : (k : ℕ) (c : Config) → Counted c → Counted (idle_turn K k c)
  idle_turn_kept k (Waiting r w) h = go (choose Unserved unserved r) (choose_found Unserved unserved r)
    where
      again : Residual
      again = each_leaf new_round r

      go : (o : Option (Focus Unserved)) → FoundIn Unserved unserved r o → Counted (elim o [ Some g ↦ served K k (Some g) r w | None ↦ served K k (choose Unserved unserved again) again w ])
      go (Some g) x = served_kept k (Some g) r w x h
      go None x = served_kept k (choose Unserved unserved again) again w (choose_found Unserved unserved again) (leaves_kept new_round round_kept r h)
  idle_turn_kept k (Turning n f w) h = h
  idle_turn_kept k (Between n r w) h = h
  idle_turn_kept k (Ended x w) h = h
  idle_turn_kept k (Faulted e w) h = h

  idle_turns_kept : (k j : ℕ) (c : Config) → Counted c → Counted (idle_turns K k j c)
  idle_turns_kept k zero c h = h
  idle_turns_kept k (suc j) c h = idle_turns_kept k j (idle_turn K k c) (idle_turn_kept k c h)

  pub done_kept : (k : ℕ) (x : Command) (c : Config) → Counted c → Counted (done K k x c)
  unfolding done
  done_kept k (Input event v) c h = input_kept k event v c h
  done_kept k (Advance us) c h = advance_kept k (us + 1) us c h
  done_kept k (Idle j) c h = idle_turns_kept k j c h

  all_kept : (k : ℕ) (xs : List Command) (c : Config) → Counted c → Counted (all_done K k xs c)
  unfolding all_done
  all_kept k [] c h = h
  all_kept k (x ∷ xs) c h = all_kept k xs (done K k x c) (done_kept k x c h)

  pub booted_kept : Counted (booted K)
  unfolding tree_counted
  booted_kept = tt

  pub run_kept : (k : ℕ) (xs : List Command) → Counted (run K k xs)
  unfolding run tree_counted
  run_kept k xs = all_kept k xs (steps K k (booted K)) (steps_kept k (booted K) tt)
