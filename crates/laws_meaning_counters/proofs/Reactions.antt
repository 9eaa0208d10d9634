-- Each step of a reaction of a proper kernel keeps the counters of open loops.
use Rattle.std.proofs.Common.{◌≡◌, refl, sym, ap, ◌∙◌, subst, ◌≤◌, ◌<◌, ℕ, zero, suc, ◌+◌, ◌*◌, true, false, if◌then◌else◌, ◌⊎◌, inl, inr, length, Option, Some, None, arith}
use Rattle.std.proofs.lemmas.Bool.{cases_lt}
use Rattle.ceu_base.specs.declared.kinds.Pos.{Pos}
use Rattle.ceu_base.specs.declared.kinds.Fault.{Fault}
use Rattle.ceu_tree.specs.declared.kernel.Kernel.{Kernel}
use Rattle.ceu_tree.specs.Residual.{Body, Program, Awaited, Spawned, same_body, Act, Residual}
use Rattle.ceu_tree.specs.Focus.{Focus, choose}
use Rattle.ceu_tree.specs.World.{World}
use Rattle.ceu_tree.specs.Wake.{runs_at}
use Rattle.ceu_tree.specs.Around.{Outcome, Goes, Rests, Raises, Fails, Past, Registers, AtBlockEnd, AtLoopHead, Ends, Leaves}
use Rattle.ceu_tree.specs.Step.{stepped}
use Rattle.ceu_tree.specs.Numbering.{block_slots, block_nodes}
use Rattle.ceu_tree.specs.Proper.{is_proper}
use Rattle.ceu_tree.specs.Run.{Config, Turning, Between, Waiting, Ended, Faulted, config_of, unless_failed, level_closed, chosen_at, next, steps}
use Rattle.laws_meaning_basics.proofs.FocusBalance.{FoundIn, choose_found}
use Rattle.laws_meaning_basics.specs.Shape.{TurnFits, ConfigFits, program_part}
use Rattle.laws_meaning_basics.proofs.RunFits.{root_sound, root_closed, next_fits}
use Rattle.laws_meaning_values.specs.Ground.{Ground}
use Rattle.laws_meaning_values.proofs.Grounds.{program_ground}
use Rattle.laws_meaning_instances.proofs.Trees.{live_focus}
use Rattle.laws_meaning_instances.proofs.Lists.{Counts}
use Rattle.laws_meaning_instances.proofs.Reactions.{ConfigCounts, next_counts}
use Rattle.laws_meaning_counters.specs.Counters.{loops_stand, is_first}
use Rattle.laws_meaning_counters.proofs.Cells.{cell_in}
use Rattle.laws_meaning_counters.proofs.Grips.{point, focus_grip}
use Rattle.laws_meaning_counters.proofs.CountersTrees.{unplugged}
use Rattle.laws_meaning_counters.proofs.Marks.{kernel_marks}
use Rattle.laws_meaning_counters.proofs.Clear.{program_clear}
use Rattle.laws_meaning_counters.proofs.Bodies.{root, inside, calls, cap, cap_most}
use Rattle.laws_meaning_counters.proofs.Bounds.{around_within}
use Rattle.laws_meaning_counters.proofs.Loopless.{ConfigStands}
use Rattle.laws_meaning_counters.proofs.Up.{OutcomeStands}
use Rattle.laws_meaning_counters.proofs.CountersSteps.{stepped_moves}

-- ---- an open body of an instance isn't one of the program

not_program : (d : Body) → 1 ≤ root d → same_body Program d ≡ false
not_program Program l = absurd (omega (arith, l))
not_program (Spawned m) l = refl
not_program (Awaited c k) l = refl

no_calls : (g : Ground) (d : Body) → 1 ≤ root d → calls Program g d ≡ 0
no_calls g Program l = absurd (omega (arith, l))
no_calls g (Spawned m) l = refl
no_calls g (Awaited c k) l = ap (λ t. if t then inside g.first g.last k else calls Program g c) (not_program c l) ∙ no_calls g c l

module _ (b : Body) (x : ℕ) where
  program_cap : (g : Ground) → 1 ≤ root b → point b x Program + cap b x Program g ≡ 0
  program_cap g l =
      let p : point b x Program ≡ 0 = ap (λ t. if t then 2 else 0) (not_program b l) in
      let c : cap b x Program g ≡ 3 * calls Program g b = ap (λ t. if t then inside g.low g.high x else 3 * calls Program g b) (not_program b l) in
      let h = no_calls g b l in
      omega (arith, p, c, h)

  -- a slot of an open body is held once at most, where each instance that lives is one
  pub program_most : (m : ℕ → ℕ) (w : World) (g : Ground) → Counts m w → point b x Program + cap b x Program g + 3 * m (root b) ≤ 3
  program_most m w g h = go (cases_lt 0 (m (root b)))
    where
      go : (0 < m (root b)) ⊎ (m (root b) ≤ 0) → point b x Program + cap b x Program g + 3 * m (root b) ≤ 3
      go (inr l) = let a = cap_most b x Program g in omega (arith, a, l)
      go (inl l) =
          let e = (h (root b)).0 in
          let o = (h (root b)).1.one in
          let z = program_cap g (named (cases_lt 0 (root b))) in
          omega (arith, e, o, z)
        where
          named : (0 < root b) ⊎ (root b ≤ 0) → 1 ≤ root b
          named (inl k) = omega (arith, k)
          named (inr k) = absurd (let e = (h (root b)).0 in let n = (h (root b)).1.none (inl (omega (arith, k))) in omega (arith, e, n, l))

abbrev pub root_ground : Kernel → Ground
root_ground K = record { low = 0; high = length (block_slots K.body); first = 0; last = length (block_nodes K.body) }

module _ (K : Kernel) (proper : is_proper K ≡ true) (b : Body) (x : ℕ) (clean : kernel_marks true x K ≡ 0) where
  turn_most : (n : ℕ) (f : Focus Act) (w : World) → TurnFits K (suc n) (program_part K) f → Counts (λ p. live_focus p f) w → point b x Program + focus_grip b x Program f ≤ 3
  turn_most n f w t h =
      let j = around_within K proper b x f (program_part K) t.part t.around Program (root_ground K) (program_ground K proper) in
      let a = j.bound in
      let c = program_most b x (λ p. live_focus p f) w (root_ground K) h in
      omega (arith, a, c)

  -- ---- a step

  config_stands : (n : ℕ) (y : Outcome) (w : World) → OutcomeStands K proper b x clean n (cell_in b x w) Program y → ConfigStands b x (config_of n y w)
  unfolding loops_stand
  config_stands n (Goes g) w h = h
  config_stands n (Rests r) w h = h
  config_stands n (Raises r) w h = h
  config_stands n (Fails e r) w h = tt
  config_stands n (Ends v) w h = tt
  config_stands n Past w h = tt
  config_stands n (Registers s) w h = tt
  config_stands n AtBlockEnd w h = tt
  config_stands n AtLoopHead w h = tt
  config_stands n (Leaves node z) w h = tt

  unless_stands : (w : World) (c : Config) → ConfigStands b x c → ConfigStands b x (unless_failed w c)
  unless_stands w c h = go w.fault
    where
      go : (o : Option (Fault × Pos)) → ConfigStands b x (elim o [ Some e ↦ Faulted e w | None ↦ c ])
      go None = h
      go (Some e) = tt

  closed_stands : (n : ℕ) (r : Residual) (w : World) → loops_stand b x (cell_in b x w) Program r → ConfigStands b x (level_closed n r w)
  closed_stands zero r w h = h
  closed_stands (suc n) r w h = h

  chosen_stands : (n : ℕ) (r : Residual) (w : World) (o : Option (Focus Act)) → FoundIn Act (runs_at n) r o → loops_stand b x (cell_in b x w) Program r → ConfigStands b x (chosen_at n o r w)
  chosen_stands n r w None y h = closed_stands n r w h
  chosen_stands n r w (Some f) y h = (unplugged b x (cell_in b x w) is_first Program f y.was (subst (loops_stand b x (cell_in b x w) Program) (sym y.plugs) h)).0

  pub next_stands : (c : Config) → ConfigFits K c → ConfigCounts c → ConfigStands b x c → ConfigStands b x (next K c)
  unfolding next
  next_stands (Turning n f w) t k h =
      let m = stepped_moves K proper b x clean n Program f w (program_part K) (point b x Program) (root_closed K proper) t (root_sound K proper) (program_clear b x K clean) (omega arith) (turn_most n f w t k.0) h in
      unless_stands (stepped K n Program f w).world (config_of n (stepped K n Program f w).outcome (stepped K n Program f w).world) (config_stands n (stepped K n Program f w).outcome (stepped K n Program f w).world m.stands)
  next_stands (Between n r w) t k h = chosen_stands n r w (choose Act (runs_at n) r) (choose_found Act (runs_at n) r) h
  next_stands (Waiting r w) t k h = h
  next_stands (Ended v w) t k h = h
  next_stands (Faulted e w) t k h = h

  pub steps_stand : (m : ℕ) (c : Config) → ConfigFits K c → ConfigCounts c → ConfigStands b x c → ConfigStands b x (steps K m c)
  unfolding steps
  steps_stand zero c t k h = h
  steps_stand (suc m) (Turning n f w) t k h = steps_stand m (next K (Turning n f w)) (next_fits K proper (Turning n f w) t) (next_counts K proper (Turning n f w) t k) (next_stands (Turning n f w) t k h)
  steps_stand (suc m) (Between n r w) t k h = steps_stand m (next K (Between n r w)) (next_fits K proper (Between n r w) t) (next_counts K proper (Between n r w) t k) (next_stands (Between n r w) t k h)
  steps_stand (suc m) (Waiting r w) t k h = h
  steps_stand (suc m) (Ended v w) t k h = h
  steps_stand (suc m) (Faulted e w) t k h = h
