-- In so many steps a reaction adds one mark for each turn that begins, and one for each level that opens.
use Rattle.std.proofs.Common.{◌≡◌, refl, sym, ◌∙◌, ℕ, zero, suc, ◌+◌, false, [], ◌∷◌, Option, Some, None, arith}
use Rattle.std.proofs.lemmas.Bool.{false≢true}
use Rattle.ceu_base.specs.declared.kinds.Pos.{Pos}
use Rattle.ceu_base.specs.declared.kinds.Fault.{Fault}
use Rattle.ceu_base.specs.declared.kinds.Mark.TheVariants.{Resume, Pop}
use Rattle.ceu_tree.specs.declared.kernel.Kernel.{Kernel}
use Rattle.ceu_tree.specs.Residual.{Program, Act, Residual}
use Rattle.ceu_tree.specs.Focus.{Focus, choose}
use Rattle.ceu_tree.specs.World.{World}
use Rattle.ceu_tree.specs.Wake.{runs_at}
use Rattle.ceu_tree.specs.Around.{Outcome, Goes, Rests, Raises, Fails, Ends, Moved}
use Rattle.ceu_tree.specs.Step.{stepped}
use Rattle.ceu_tree.specs.Run.{Config, Turning, Between, Waiting, Ended, Faulted, world_of, config_of, unless_failed, chosen_at, next, is_reacting, steps}
use Rattle.ceu_endings.specs.Laws.{resumes}
use Rattle.laws_bounds_steps.specs.Programs.{begins, opens, turns_begun, levels_opened}
use Rattle.laws_bounds_turns.specs.Marked.{pushes, unharmed}
use Rattle.laws_bounds_turns.proofs.Silent.{Silent, silent, mark_silent, resumes_append, pushes_append, aborted_silent}
use Rattle.laws_bounds_turns.proofs.Around.{raised}
use Rattle.laws_bounds_turns.proofs.Stepped.{Marked, step_marked}

-- ---- after a step of a turn

config_silent : (n : ℕ) (x : Outcome) (w : World) → Silent w (world_of (config_of n x w))
config_silent n (Goes g) w = silent w
config_silent n (Rests r) w = silent w
config_silent n (Raises r) w = silent w
config_silent n (Fails e r) w = aborted_silent r Program w
config_silent n (Ends v) w = silent w
config_silent n x w = silent w

config_opens : (n : ℕ) (x : Outcome) (w : World) → opens n (config_of n x w) ≡ raised x
config_opens n (Goes g) w = refl
config_opens n (Rests r) w = omega arith
config_opens n (Raises r) w = omega arith
config_opens n (Fails e r) w = refl
config_opens n (Ends v) w = refl
config_opens n x w = omega arith

config_unharmed : (n : ℕ) (x : Outcome) (w : World) → w.fault ≡ None → unharmed (config_of n x w)
config_unharmed n (Goes g) w h = h
config_unharmed n (Rests r) w h = h
config_unharmed n (Raises r) w h = h
config_unharmed n (Fails e r) w h = tt
config_unharmed n (Ends v) w h = h
config_unharmed n x w h = h

unraised : (x : Outcome) → (raised x ≡ 1 → ⊥) → raised x ≡ 0
unraised (Raises r) h = absurd (h refl)
unraised (Goes g) h = refl
unraised (Rests r) h = refl
unraised (Fails e r) h = refl
unraised (Ends v) h = refl
unraised x h = refl

module _ (n : ℕ) (w : World) (m : Moved) (h : Marked w m) where
  moved_turns : resumes (world_of (unless_failed m.world (config_of n m.outcome m.world))).marks ≡ resumes w.marks
  moved_turns = go m.world.fault
    where
      go : (o : Option (Fault × Pos)) → resumes (world_of (elim o [ Some e ↦ Faulted e m.world | None ↦ config_of n m.outcome m.world ])).marks ≡ resumes w.marks
      go None = (config_silent n m.outcome m.world).turns ∙ h.turns
      go (Some e) = h.turns

  -- a step that opens a level notes no fault, so a step after which the program stops has marked none
  moved_levels : w.fault ≡ None
      → pushes (world_of (unless_failed m.world (config_of n m.outcome m.world))).marks ≡ pushes w.marks + opens n (unless_failed m.world (config_of n m.outcome m.world))
  moved_levels fine = go m.world.fault refl
    where
      go : (o : Option (Fault × Pos)) → m.world.fault ≡ o
          → pushes (world_of (elim o [ Some e ↦ Faulted e m.world | None ↦ config_of n m.outcome m.world ])).marks
          ≡ pushes w.marks + opens n (elim o [ Some e ↦ Faulted e m.world | None ↦ config_of n m.outcome m.world ])
      go None q = let a = (config_silent n m.outcome m.world).levels in let b = h.levels in let c = config_opens n m.outcome m.world in omega (arith, a, b, c)
      go (Some e) q = let a = unraised m.outcome (λ r. (let i = h.fine r in cc)) in let b = h.levels in omega (arith, a, b)

  moved_unharmed : unharmed (unless_failed m.world (config_of n m.outcome m.world))
  moved_unharmed = go m.world.fault refl
    where
      go : (o : Option (Fault × Pos)) → m.world.fault ≡ o → unharmed (elim o [ Some e ↦ Faulted e m.world | None ↦ config_of n m.outcome m.world ])
      go None q = config_unharmed n m.outcome m.world q
      go (Some e) q = tt

-- ---- between two turns

chosen_turns : (n : ℕ) (o : Option (Focus Act)) (r : Residual) (w : World) → resumes (world_of (chosen_at n o r w)).marks ≡ resumes w.marks + begins (chosen_at n o r w)
chosen_turns n (Some f) r w = resumes_append w.marks (Resume n ∷ [])
chosen_turns zero None r w = omega arith
chosen_turns (suc n) None r w = let i = (mark_silent (Pop (suc n)) w refl refl).turns in omega (arith, i)

chosen_levels : (n : ℕ) (o : Option (Focus Act)) (r : Residual) (w : World) → pushes (world_of (chosen_at n o r w)).marks ≡ pushes w.marks
chosen_levels n (Some f) r w = let e = pushes_append w.marks (Resume n ∷ []) in omega (arith, e)
chosen_levels zero None r w = refl
chosen_levels (suc n) None r w = (mark_silent (Pop (suc n)) w refl refl).levels

chosen_unharmed : (n : ℕ) (o : Option (Focus Act)) (r : Residual) (w : World) → w.fault ≡ None → unharmed (chosen_at n o r w)
chosen_unharmed n (Some f) r w h = h
chosen_unharmed zero None r w h = h
chosen_unharmed (suc n) None r w h = h

-- ---- reactions

module _ (K : Kernel) where
  next_unharmed : (c : Config) → unharmed c → unharmed (next K c)
  unfolding next
  next_unharmed (Turning n f w) h = moved_unharmed n w (stepped K n Program f w) (step_marked K n Program f w)
  next_unharmed (Between n r w) h = chosen_unharmed n (choose Act (runs_at n) r) r w h
  next_unharmed (Waiting r w) h = h
  next_unharmed (Ended v w) h = h
  next_unharmed (Faulted e w) h = h

  pub steps_unharmed : (k : ℕ) (c : Config) → unharmed c → unharmed (steps K k c)
  unfolding steps
  steps_unharmed zero c h = h
  steps_unharmed (suc k) (Turning n f w) h = steps_unharmed k (next K (Turning n f w)) (next_unharmed (Turning n f w) h)
  steps_unharmed (suc k) (Between n r w) h = steps_unharmed k (next K (Between n r w)) (next_unharmed (Between n r w) h)
  steps_unharmed (suc k) (Waiting r w) h = h
  steps_unharmed (suc k) (Ended v w) h = h
  steps_unharmed (suc k) (Faulted e w) h = h

  turn_turns : (n : ℕ) (f : Focus Act) (w : World) → resumes (world_of (next K (Turning n f w))).marks ≡ resumes w.marks
  unfolding next
  turn_turns n f w = moved_turns n w (stepped K n Program f w) (step_marked K n Program f w)

  begun_turns : (n : ℕ) (r : Residual) (w : World) → resumes (world_of (next K (Between n r w))).marks ≡ resumes w.marks + begins (next K (Between n r w))
  unfolding next
  begun_turns n r w = chosen_turns n (choose Act (runs_at n) r) r w

  pub steps_turns : (k : ℕ) (c : Config) → resumes (world_of (steps K k c)).marks ≡ resumes (world_of c).marks + turns_begun K k c
  unfolding steps turns_begun
  steps_turns zero c = omega arith
  steps_turns (suc k) (Turning n f w) = let i = steps_turns k (next K (Turning n f w)) in let j = turn_turns n f w in omega (arith, i, j)
  steps_turns (suc k) (Between n r w) = let i = steps_turns k (next K (Between n r w)) in let j = begun_turns n r w in omega (arith, i, j)
  steps_turns (suc k) (Waiting r w) = omega arith
  steps_turns (suc k) (Ended v w) = omega arith
  steps_turns (suc k) (Faulted e w) = omega arith

  turn_levels : (n : ℕ) (f : Focus Act) (w : World) → w.fault ≡ None → pushes (world_of (next K (Turning n f w))).marks ≡ pushes w.marks + opens n (next K (Turning n f w))
  unfolding next
  turn_levels n f w h = moved_levels n w (stepped K n Program f w) (step_marked K n Program f w) h

  begun_levels : (n : ℕ) (r : Residual) (w : World) → pushes (world_of (next K (Between n r w))).marks ≡ pushes w.marks
  unfolding next
  begun_levels n r w = chosen_levels n (choose Act (runs_at n) r) r w

  pub steps_levels : (k : ℕ) (c : Config) → unharmed c → pushes (world_of (steps K k c)).marks ≡ pushes (world_of c).marks + levels_opened K k c
  unfolding steps levels_opened
  steps_levels zero c h = omega arith
  steps_levels (suc k) (Turning n f w) h =
      let i = steps_levels k (next K (Turning n f w)) (next_unharmed (Turning n f w) h) in let j = turn_levels n f w h in omega (arith, i, j)
  steps_levels (suc k) (Between n r w) h =
      let i = steps_levels k (next K (Between n r w)) (next_unharmed (Between n r w) h) in let j = begun_levels n r w in omega (arith, i, j)
  steps_levels (suc k) (Waiting r w) h = omega arith
  steps_levels (suc k) (Ended v w) h = omega arith
  steps_levels (suc k) (Faulted e w) h = omega arith

  pub faultless : (c : Config) → (world_of c).fault ≡ None → unharmed c
  faultless (Turning n f w) h = h
  faultless (Between n r w) h = h
  faultless (Waiting r w) h = h
  faultless (Ended v w) h = h
  faultless (Faulted e w) h = tt

  pub over_levels : (k : ℕ) (c : Config) → is_reacting c ≡ false → pushes (world_of (steps K k c)).marks ≡ pushes (world_of c).marks + levels_opened K k c
  unfolding steps levels_opened
  over_levels zero c e = omega arith
  over_levels (suc k) (Turning n f w) e = absurd (false≢true (sym e))
  over_levels (suc k) (Between n r w) e = absurd (false≢true (sym e))
  over_levels (suc k) (Waiting r w) e = omega arith
  over_levels (suc k) (Ended v w) e = omega arith
  over_levels (suc k) (Faulted e w) z = omega arith
