-- Reactions, commands and runs keep all ranges.
use Rattle.std.proofs.Common.{◌≡◌, refl, sym, ap, ◌∙◌, subst, ◌<◌, ℕ, zero, suc, ◌+◌, ◌-◌, min, ℤ, pos, nat_le, Bool, true, false, if◌then◌else◌, ◌==◌, List, [], ◌∷◌, ◌++◌, Option, Some, None, arith}
use Rattle.std.proofs.lemmas.Bool.{eqb-false, leb-false}
use Rattle.ceu_base.specs.declared.kinds.Pos.{Pos}
use Rattle.ceu_base.specs.declared.kinds.Fault.{Fault}
use Rattle.ceu_tree.specs.declared.command.Command.{Command}
use Rattle.ceu_tree.specs.declared.command.Command.TheVariants.{Input, Advance, Idle}
use Rattle.ceu_tree.specs.declared.kernel.Kernel.{Kernel}
use Rattle.ceu_tree.specs.Residual.{Body, Program, Act, Finish, Again, Residual, Over, Run, WaitInput, WaitTime, WaitEvent, WaitForever, InAsync, Block, Open, Loop, Call, Par, Branches, no_branch, branch, Instances, no_instance, instance}
use Rattle.ceu_tree.specs.Focus.{Focus, plug, leaf, body_of, choose}
use Rattle.ceu_tree.specs.World.{World}
use Rattle.ceu_tree.specs.Wake.{each_leaf, each_in_branches, each_in_instances, leaves, leaves_of_branches, leaves_of_instances, runs_at, by_input, later, by_time, least_time, Unserved, unserved, new_round}
use Rattle.ceu_tree.specs.Around.{Outcome, Goes, Rests, Raises, Fails, Ends}
use Rattle.ceu_tree.specs.Step.{stepped}
use Rattle.ceu_tree.specs.Run.{Config, Turning, Between, Waiting, Ended, Faulted, config_of, unless_failed, level_closed, chosen_at, next, steps, booted, reacts, input, advance, is_again, Served, Unfinished, Turned, Done, Failed, serve, serve_first, after_serving, served, idle_turn, idle_turns, done, all_done, run}
use Rattle.laws_meaning_basics.proofs.FocusBalance.{Found, FoundIn, choose_found}
use Rattle.laws_meaning_counters.specs.Ranges.{in_range, each_in_range, all_in_range, focus_in_range, ConfigInRange}
use Rattle.laws_meaning_counters.proofs.RangesTrees.{plugged, unplugged, leaves_kept}
use Rattle.laws_meaning_counters.proofs.RangesSteps.{OutcomeRange, stepped_fine}

-- ---- time passes

mutual
  unfolding in_range each_leaf

  -- where the least of the remaining times is over
  timed_kept : (delay m : ℕ) (r : Residual) → in_range r → in_range (each_leaf (by_time delay) (each_leaf (later m) r))
  timed_kept delay m (Block b fin all r rest) h = (timed_all delay m all h.0, timed_kept delay m r h.1)
  timed_kept delay m (Open s r) h = timed_kept delay m r h
  timed_kept delay m (Loop s c r) h = (h.0, timed_kept delay m r h.1)
  timed_kept delay m (Call s r) h = timed_kept delay m r h
  timed_kept delay m (Par s bs) h = timed_each delay m bs h
  timed_kept delay m Over h = h
  timed_kept delay m (Run n a) h = h
  timed_kept delay m (WaitInput k s) h = h
  timed_kept delay m (WaitTime left s) h = go (left - m == 0) refl
    where
      go : (b : Bool) → (left - m == 0) ≡ b → in_range (if b then Run 0 (Finish s (pos (min delay 2147483647))) else WaitTime (left - m) s)
      go true e = tt
      go false e = let z = eqb-false (left - m) 0 e in (omega (arith, z), omega (arith, h.1))
  timed_kept delay m (WaitEvent k s) h = h
  timed_kept delay m (WaitForever s) h = h
  timed_kept delay m (InAsync s served r) h = h

  timed_each : (delay m : ℕ) (bs : Branches) → each_in_range bs → each_in_range (each_in_branches (by_time delay) (each_in_branches (later m) bs))
  timed_each delay m no_branch h = tt
  timed_each delay m (branch r more) h = (timed_kept delay m r h.0, timed_each delay m more h.1)

  timed_all : (delay m : ℕ) (all : Instances) → all_in_range all → all_in_range (each_in_instances (by_time delay) (each_in_instances (later m) all))
  timed_all delay m no_instance h = tt
  timed_all delay m (instance seat r more) h = (timed_kept delay m r h.0, timed_all delay m more h.1)

-- all times of these leaves are longer than d
abbrev after : ℕ → List Residual → Type 0
after d [] = Unit {0}
after d (WaitTime left s ∷ rs) = (d < left) × after d rs
after d (r ∷ rs) = after d rs

least_after : (d : ℕ) (rs : List Residual) → ((m : ℕ) → least_time rs ≡ Some m → d < m) → after d rs
least_after d [] h = tt
least_after d (WaitTime left s ∷ rs) h = go (least_time rs) refl h (least_after d rs)
  where
    go : (o : Option ℕ) → least_time rs ≡ o → ((m : ℕ) → (elim o [ None ↦ Some left | Some m ↦ Some (min left m) ]) ≡ Some m → d < m) → (((m : ℕ) → least_time rs ≡ Some m → d < m) → after d rs) → (d < left) × after d rs
    go None e k ih = (k left refl, ih (λ m q. absurd (cc)))
    go (Some j) e k ih =
        let z = k (min left j) refl in
        (omega (arith, z), ih (λ m q. (let same : j ≡ m = ap (λ o. elim o [ None ↦ j | Some y ↦ y ]) (sym e ∙ q) in omega (arith, z, same))))
least_after d (r ∷ rs) h = least_after d rs h

after_parts : (d : ℕ) (rs qs : List Residual) → after d (rs ++ qs) → after d rs × after d qs
after_parts d [] qs h = (tt, h)
after_parts d (WaitTime left s ∷ rs) qs h = let a = after_parts d rs qs h.1 in ((h.0, a.0), a.1)
after_parts d (r ∷ rs) qs h = after_parts d rs qs h

mutual
  unfolding in_range each_leaf leaves

  later_kept : (d : ℕ) (r : Residual) → after d (leaves r) → in_range r → in_range (each_leaf (later d) r)
  later_kept d (Block b fin all r rest) a h = let x = after_parts d (leaves_of_instances all) (leaves r) a in (later_all d all x.0 h.0, later_kept d r x.1 h.1)
  later_kept d (Open s r) a h = later_kept d r a h
  later_kept d (Loop s c r) a h = (h.0, later_kept d r a h.1)
  later_kept d (Call s r) a h = later_kept d r a h
  later_kept d (Par s bs) a h = later_each d bs a h
  later_kept d Over a h = h
  later_kept d (Run n b) a h = h
  later_kept d (WaitInput k s) a h = h
  later_kept d (WaitTime left s) a h = (omega (arith, a.0), omega (arith, h.1))
  later_kept d (WaitEvent k s) a h = h
  later_kept d (WaitForever s) a h = h
  later_kept d (InAsync s served r) a h = h

  later_each : (d : ℕ) (bs : Branches) → after d (leaves_of_branches bs) → each_in_range bs → each_in_range (each_in_branches (later d) bs)
  later_each d no_branch a h = tt
  later_each d (branch r more) a h = let x = after_parts d (leaves r) (leaves_of_branches more) a in (later_kept d r x.0 h.0, later_each d more x.1 h.1)

  later_all : (d : ℕ) (all : Instances) → after d (leaves_of_instances all) → all_in_range all → all_in_range (each_in_instances (later d) all)
  later_all d no_instance a h = tt
  later_all d (instance seat r more) a h = let x = after_parts d (leaves r) (leaves_of_instances more) a in (later_kept d r x.0 h.0, later_all d more x.1 h.1)

by_input_kept : (k : ℕ) (v : ℤ) (r : Residual) → in_range r → in_range (by_input k v r)
unfolding in_range
by_input_kept k v (WaitInput m s) h = go (m == k)
  where
    go : (b : Bool) → in_range (if b then Run 0 (Finish s v) else WaitInput m s)
    go true = tt
    go false = tt
by_input_kept k v r h = h

round_kept : (r : Residual) → in_range r → in_range (new_round r)
unfolding in_range
round_kept (InAsync s served r) h = h
round_kept r h = h

-- ---- a step

config_kept : (n : ℕ) (x : Outcome) (w : World) → OutcomeRange x → ConfigInRange (config_of n x w)
unfolding in_range
config_kept n (Goes g) w h = h
config_kept n (Rests r) w h = h
config_kept n (Raises r) w h = h
config_kept n (Fails e r) w h = tt
config_kept n (Ends v) w h = tt
config_kept n x w h = tt

unless_kept : (w : World) (c : Config) → ConfigInRange c → ConfigInRange (unless_failed w c)
unless_kept w c h = go w.fault
  where
    go : (o : Option (Fault × Pos)) → ConfigInRange (elim o [ Some e ↦ Faulted e w | None ↦ c ])
    go None = h
    go (Some e) = tt

closed_kept : (n : ℕ) (r : Residual) (w : World) → in_range r → ConfigInRange (level_closed n r w)
closed_kept zero r w h = h
closed_kept (suc n) r w h = h

chosen_in : {A : Type 0} (pick : Residual → Option A) (r : Residual) (f : Focus A) → Found A pick r f → in_range r → focus_in_range f
chosen_in pick r f x h = (unplugged f x.was (subst in_range (sym x.plugs) h)).0

chosen_kept : (n : ℕ) (r : Residual) (w : World) (o : Option (Focus Act)) → FoundIn Act (runs_at n) r o → in_range r → ConfigInRange (chosen_at n o r w)
chosen_kept n r w None x h = closed_kept n r w h
chosen_kept n r w (Some f) x h = chosen_in (runs_at n) r f x h

module _ (K : Kernel) where
  pub next_kept : (c : Config) → ConfigInRange c → ConfigInRange (next K c)
  unfolding next
  next_kept (Turning n f w) h = let m = stepped K n Program f w in unless_kept m.world (config_of n m.outcome m.world) (config_kept n m.outcome m.world (stepped_fine K n Program f w h))
  next_kept (Between n r w) h = chosen_kept n r w (choose Act (runs_at n) r) (choose_found Act (runs_at n) r) h
  next_kept (Waiting r w) h = h
  next_kept (Ended v w) h = h
  next_kept (Faulted e w) h = h

  steps_kept : (k : ℕ) (c : Config) → ConfigInRange c → ConfigInRange (steps K k c)
  unfolding steps
  steps_kept zero c h = h
  steps_kept (suc k) (Turning n f w) h = steps_kept k (next K (Turning n f w)) (next_kept (Turning n f w) h)
  steps_kept (suc k) (Between n r w) h = steps_kept k (next K (Between n r w)) (next_kept (Between n r w) h)
  steps_kept (suc k) (Waiting r w) h = h
  steps_kept (suc k) (Ended v w) h = h
  steps_kept (suc k) (Faulted e w) h = h

  input_kept : (k event : ℕ) (v : ℤ) (c : Config) → ConfigInRange c → ConfigInRange (input K k event v c)
  input_kept k event v (Waiting r w) h = steps_kept k (Between 0 (each_leaf (by_input event v) r) w) (leaves_kept (by_input event v) (by_input_kept event v) r h)
  input_kept k event v (Turning n f w) h = h
  input_kept k event v (Between n r w) h = h
  input_kept k event v (Ended x w) h = h
  input_kept k event v (Faulted e w) h = h

  advance_kept : (k j d : ℕ) (c : Config) → ConfigInRange c → ConfigInRange (advance K k j d c)
  unfolding advance
  advance_kept k zero d c h = h
  advance_kept k (suc j) d (Waiting r w) h = go (least_time (leaves r)) refl (λ m. advance_kept k j (d - m) (timed m) (timed_in m))
    where
      timed : ℕ → Config
      timed m = reacts K k (each_leaf (by_time (d - m)) (each_leaf (later m) r)) w

      timed_in : (m : ℕ) → ConfigInRange (timed m)
      timed_in m = steps_kept k (Between 0 (each_leaf (by_time (d - m)) (each_leaf (later m) r)) w) (timed_kept (d - m) m r h)

      go : (o : Option ℕ) → least_time (leaves r) ≡ o → ((m : ℕ) → ConfigInRange (advance K k j (d - m) (timed m))) → ConfigInRange (elim o [
        | None ↦ Waiting r w
        | Some m ↦ elim (nat_le m d) [
          | true ↦ advance K k j (d - m) (timed m)
          | false ↦ Waiting (each_leaf (later d) r) w
        ]
      ])
      go None e ih = h
      go (Some m) e ih = inner (nat_le m d) refl
        where
          inner : (b : Bool) → nat_le m d ≡ b → ConfigInRange (elim b [ true ↦ advance K k j (d - m) (timed m) | false ↦ Waiting (each_leaf (later d) r) w ])
          inner true q = ih m
          inner false q =
              later_kept d r (least_after d (leaves r) (λ n p. (let same : m ≡ n = ap (λ o. elim o [ None ↦ m | Some y ↦ y ]) (sym e ∙ p) in let z = leb-false m d q in omega (arith, same, z)))) h
  advance_kept k (suc j) d (Turning n f w) h = h
  advance_kept k (suc j) d (Between n r w) h = h
  advance_kept k (suc j) d (Ended x w) h = h
  advance_kept k (suc j) d (Faulted e w) h = h

  -- ---- asyncs

  abbrev ServedRange : Served → Type 0
  ServedRange (Turned r w) = in_range r
  ServedRange x = Unit {0}

  serve_kept : (k : ℕ) (root : Body) (f : Focus Act) (w : World) → focus_in_range f → ServedRange (serve K k root f w)
  unfolding serve in_range
  serve_kept zero root f w h = tt
  serve_kept (suc k) root f w h = go (stepped K 0 root f w).outcome (stepped_fine K 0 root f w h) (λ g x. serve_kept k root g u x)
    where
      u : World
      u = (stepped K 0 root f w).world

      go : (x : Outcome) → OutcomeRange x → ((g : Focus Act) → focus_in_range g → ServedRange (serve K k root g u)) → ServedRange (elim x [
        | Goes g ↦ elim (is_again (leaf g)) [ true ↦ Turned (plug g (Run 0 Again)) u | false ↦ serve K k root g u ]
        | Fails e r ↦ Failed e r u
        | Rests r ↦ Turned r u
        | Raises r ↦ Turned r u
        | _ ↦ Done u
      ])
      go (Goes g) x ih = inner (is_again (leaf g))
        where
          inner : (b : Bool) → ServedRange (elim b [ true ↦ Turned (plug g (Run 0 Again)) u | false ↦ serve K k root g u ])
          inner true = plugged g (Run 0 Again) x tt
          inner false = ih g x
      go (Rests r) x ih = x
      go (Raises r) x ih = x
      go y x ih = tt

  first_kept : (k : ℕ) (root : Body) (o : Option (Focus Act)) (r : Residual) (w : World) → FoundIn Act (runs_at 0) r o → in_range r → ServedRange (serve_first K k root o r w)
  first_kept k root None r w x h = h
  first_kept k root (Some f) r w x h = serve_kept k root f w (chosen_in (runs_at 0) r f x h)

  unserved_in : (r : Residual) (x : Unserved) → unserved r ≡ Some x → in_range r → in_range x.inner
  unfolding in_range
  unserved_in (InAsync s false r) x e h = subst in_range (ap (λ o. elim o [ None ↦ r | Some y ↦ y.inner ]) e) h
  unserved_in r x e h = absurd (cc)

  after_kept : (k : ℕ) (g : Focus Unserved) (x : Served) (r : Residual) (w : World) → focus_in_range g → in_range r → ServedRange x → ConfigInRange (after_serving K k g x r w)
  unfolding in_range
  after_kept k g Unfinished r w a h s = h
  after_kept k g (Turned q u) r w a h s = plugged g (InAsync (leaf g).stmt true q) a s
  after_kept k g (Done u) r w a h s = steps_kept k (Between 0 (plug g (Run 0 (Finish (leaf g).stmt (pos 0)))) u) (plugged g (Run 0 (Finish (leaf g).stmt (pos 0))) a tt)
  after_kept k g (Failed e q u) r w a h s = tt

  served_kept : (k : ℕ) (o : Option (Focus Unserved)) (r : Residual) (w : World) → FoundIn Unserved unserved r o → in_range r → ConfigInRange (served K k o r w)
  served_kept k None r w x h = h
  served_kept k (Some g) r w x h =
      let a = unplugged g x.was (subst in_range (sym x.plugs) h) in
      after_kept k g _ r w a.0 h (first_kept k (body_of g Program) (choose Act (runs_at 0) (leaf g).inner) (leaf g).inner w (choose_found Act (runs_at 0) (leaf g).inner) (unserved_in x.was (leaf g) x.picked a.1))

  idle_turn_kept : (k : ℕ) (c : Config) → ConfigInRange c → ConfigInRange (idle_turn K k c)
  idle_turn_kept k (Waiting r w) h = go (choose Unserved unserved r) (choose_found Unserved unserved r)
    where
      again : Residual
      again = each_leaf new_round r

      go : (o : Option (Focus Unserved)) → FoundIn Unserved unserved r o → ConfigInRange (elim o [ Some g ↦ served K k (Some g) r w | None ↦ served K k (choose Unserved unserved again) again w ])
      go (Some g) x = served_kept k (Some g) r w x h
      go None x = served_kept k (choose Unserved unserved again) again w (choose_found Unserved unserved again) (leaves_kept new_round round_kept r h)
  idle_turn_kept k (Turning n f w) h = h
  idle_turn_kept k (Between n r w) h = h
  idle_turn_kept k (Ended x w) h = h
  idle_turn_kept k (Faulted e w) h = h

  idle_turns_kept : (k j : ℕ) (c : Config) → ConfigInRange c → ConfigInRange (idle_turns K k j c)
  idle_turns_kept k zero c h = h
  idle_turns_kept k (suc j) c h = idle_turns_kept k j (idle_turn K k c) (idle_turn_kept k c h)

  pub done_kept : (k : ℕ) (x : Command) (c : Config) → ConfigInRange c → ConfigInRange (done K k x c)
  unfolding done
  done_kept k (Input event v) c h = input_kept k event v c h
  done_kept k (Advance us) c h = advance_kept k (us + 1) us c h
  done_kept k (Idle j) c h = idle_turns_kept k j c h

  all_kept : (k : ℕ) (xs : List Command) (c : Config) → ConfigInRange c → ConfigInRange (all_done K k xs c)
  unfolding all_done
  all_kept k [] c h = h
  all_kept k (x ∷ xs) c h = all_kept k xs (done K k x c) (done_kept k x c h)

  pub run_kept : (k : ℕ) (xs : List Command) → ConfigInRange (run K k xs)
  unfolding run in_range
  run_kept k xs = all_kept k xs (steps K k (booted K)) (steps_kept k (booted K) tt)
