-- Each step of a reaction of a proper kernel leaves a value to each slot that is needed.
use Rattle.std.proofs.Common.{◌≡◌, ap, ◌≤◌, ℕ, zero, suc, ◌+◌, Bool, true, false, if◌then◌else◌, ◌==◌, Option, Some, None, arith}
use Rattle.ceu_base.specs.declared.kinds.Pos.{Pos}
use Rattle.ceu_base.specs.declared.kinds.Fault.{Fault}
use Rattle.ceu_tree.specs.declared.kernel.Kernel.{Kernel}
use Rattle.ceu_tree.specs.Residual.{Body, Program, Act, Residual, Run}
use Rattle.ceu_tree.specs.Focus.{Focus, choose, leaf, body_of}
use Rattle.ceu_tree.specs.World.{World}
use Rattle.ceu_tree.specs.Wake.{runs_at}
use Rattle.ceu_tree.specs.Around.{Outcome, Goes, Rests, Raises, Fails, Past, Registers, AtBlockEnd, AtLoopHead, Ends, Leaves}
use Rattle.ceu_tree.specs.Step.{stepped}
use Rattle.ceu_tree.specs.Proper.{is_proper}
use Rattle.ceu_tree.specs.Run.{Config, Turning, Between, Waiting, Ended, Faulted, config_of, unless_failed, level_closed, chosen_at, next, steps}
use Rattle.laws_meaning_basics.proofs.FocusBalance.{FoundIn, choose_found}
use Rattle.laws_meaning_basics.specs.Shape.{TurnFits, ConfigFits, program_part}
use Rattle.laws_meaning_basics.proofs.RunFits.{root_sound, root_closed, next_fits}
use Rattle.laws_meaning_values.specs.Ground.{has}
use Rattle.laws_meaning_values.proofs.Grounds.{program_ground}
use Rattle.laws_meaning_instances.proofs.Trees.{live_focus}
use Rattle.laws_meaning_instances.proofs.Lists.{Counts}
use Rattle.laws_meaning_instances.proofs.Reactions.{ConfigCounts, next_counts}
use Rattle.laws_meaning_counters.specs.Counters.{is_first}
use Rattle.laws_meaning_counters.proofs.Grips.{point}
use Rattle.laws_meaning_counters.proofs.Reactions.{program_most}
use Rattle.laws_meaning_assigned.specs.Needed.{act_needed, needed, focus_needed}
use Rattle.laws_meaning_assigned.proofs.Grips.{focus_grip}
use Rattle.laws_meaning_assigned.proofs.Trees.{unplugged}
use Rattle.laws_meaning_assigned.proofs.Places.{root_ground, known_program}
use Rattle.laws_meaning_assigned.proofs.Bounds.{around_within}
use Rattle.laws_meaning_assigned.proofs.Up.{outcome_needed}
use Rattle.laws_meaning_assigned.proofs.Steps.{stepped_moves}

module _ (K : Kernel) (b : Body) (x : ℕ) where
  -- of one slot
  abbrev pub OneStocked : Config → Type 0
  OneStocked (Turning n f w) = 1 ≤ focus_needed K.codes b x is_first Program f + act_needed K.codes b x (body_of f Program) (leaf f) → has b x w ≡ true
  OneStocked (Between n r w) = 1 ≤ needed K.codes b x Program r → has b x w ≡ true
  OneStocked (Waiting r w) = 1 ≤ needed K.codes b x Program r → has b x w ≡ true
  OneStocked (Ended v w) = Unit {0}
  OneStocked (Faulted e w) = Unit {0}

  -- a leaf that can run needs what its act needs
  pub picked_needed : (n : ℕ) (here : Body) (r : Residual) (a : Act) → runs_at n r ≡ Some a → needed K.codes b x here r ≡ act_needed K.codes b x here a
  unfolding needed
  picked_needed n here (Run m c) a e = go (m == n) e
    where
      go : (t : Bool) → (if t then Some c else None) ≡ Some a → act_needed K.codes b x here c ≡ act_needed K.codes b x here a
      go true q = ap (λ o. elim o [ None ↦ act_needed K.codes b x here c | Some z ↦ act_needed K.codes b x here z ]) q
      go false q = absurd (cc)
  picked_needed n here r a e = absurd (cc)

module _ (K : Kernel) (proper : is_proper K ≡ true) (b : Body) (x : ℕ) where
  turn_most : (n : ℕ) (f : Focus Act) (w : World) → TurnFits K (suc n) (program_part K) f → Counts (λ p. live_focus p f) w → point b x Program + focus_grip K.codes b x Program f ≤ 3
  turn_most n f w t h =
      let j = around_within K proper b x f (program_part K) t.part t.around Program (root_ground K) (program_ground K proper) in
      let a = j.bound in
      let c = program_most b x (λ p. live_focus p f) w (root_ground K) h in
      omega (arith, a, c)

  -- ---- a step

  config_stocked : (n : ℕ) (y : Outcome) (w : World) → (1 ≤ outcome_needed K proper b x n Program y → has b x w ≡ true) → OneStocked K b x (config_of n y w)
  unfolding needed
  config_stocked n (Goes g) w h = h
  config_stocked n (Rests r) w h = h
  config_stocked n (Raises r) w h = h
  config_stocked n (Fails e r) w h = tt
  config_stocked n (Ends v) w h = tt
  config_stocked n Past w h = h
  config_stocked n (Registers s) w h = h
  config_stocked n AtBlockEnd w h = h
  config_stocked n AtLoopHead w h = h
  config_stocked n (Leaves node z) w h = h

  unless_stocked : (w : World) (c : Config) → OneStocked K b x c → OneStocked K b x (unless_failed w c)
  unless_stocked w c h = go w.fault
    where
      go : (o : Option (Fault × Pos)) → OneStocked K b x (elim o [ Some e ↦ Faulted e w | None ↦ c ])
      go None = h
      go (Some e) = tt

  closed_stocked : (n : ℕ) (r : Residual) (w : World) → (1 ≤ needed K.codes b x Program r → has b x w ≡ true) → OneStocked K b x (level_closed n r w)
  closed_stocked zero r w h = h
  closed_stocked (suc n) r w h = h

  chosen_stocked : (n : ℕ) (r : Residual) (w : World) (o : Option (Focus Act)) → FoundIn Act (runs_at n) r o → (1 ≤ needed K.codes b x Program r → has b x w ≡ true) → OneStocked K b x (chosen_at n o r w)
  chosen_stocked n r w None y h = closed_stocked n r w h
  chosen_stocked n r w (Some f) y h = λ m. h
      (let u = unplugged K.codes b x is_first Program f y.was in let z = picked_needed K b x n (body_of f Program) y.was (leaf f) y.picked in let p = ap (needed K.codes b x Program) y.plugs in omega (arith, u, z, p, m))

  pub next_stocked : (c : Config) → ConfigFits K c → ConfigCounts c → OneStocked K b x c → OneStocked K b x (next K c)
  unfolding next
  next_stocked (Turning n f w) t k h =
      let m = stepped_moves K proper b x n Program f w (program_part K) (root_ground K) (point b x Program) (root_closed K proper) t (root_sound K proper) (program_ground K proper) (known_program K proper b x (point b x Program) (omega arith)) (turn_most n f w t k.0) h in
      unless_stocked (stepped K n Program f w).world (config_of n (stepped K n Program f w).outcome (stepped K n Program f w).world) (config_stocked n (stepped K n Program f w).outcome (stepped K n Program f w).world m.stocked)
  next_stocked (Between n r w) t k h = chosen_stocked n r w (choose Act (runs_at n) r) (choose_found Act (runs_at n) r) h
  next_stocked (Waiting r w) t k h = h
  next_stocked (Ended v w) t k h = h
  next_stocked (Faulted e w) t k h = h

  pub steps_stocked : (m : ℕ) (c : Config) → ConfigFits K c → ConfigCounts c → OneStocked K b x c → OneStocked K b x (steps K m c)
  unfolding steps
  steps_stocked zero c t k h = h
  steps_stocked (suc m) (Turning n f w) t k h = steps_stocked m (next K (Turning n f w)) (next_fits K proper (Turning n f w) t) (next_counts K proper (Turning n f w) t k) (next_stocked (Turning n f w) t k h)
  steps_stocked (suc m) (Between n r w) t k h = steps_stocked m (next K (Between n r w)) (next_fits K proper (Between n r w) t) (next_counts K proper (Between n r w) t k) (next_stocked (Between n r w) t k h)
  steps_stocked (suc m) (Waiting r w) t k h = h
  steps_stocked (suc m) (Ended v w) t k h = h
  steps_stocked (suc m) (Faulted e w) t k h = h
