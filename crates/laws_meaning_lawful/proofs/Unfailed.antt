-- Where a run of a proper kernel waits, no finalizer has failed.
use Rattle.std.proofs.Common.{◌≡◌, refl, ◌∙◌, subst, ℕ, zero, suc, ◌+◌, ◌-◌, ℤ, nat_le, Bool, true, false, List, [], ◌∷◌, Option, Some, None}
use Rattle.std.proofs.lemmas.Bool.{false≢true}
use Rattle.ceu_base.specs.declared.kinds.Pos.{Pos}
use Rattle.ceu_base.specs.declared.kinds.Fault.{Fault}
use Rattle.ceu_tree.specs.declared.command.Command.{Command}
use Rattle.ceu_tree.specs.declared.command.Command.TheVariants.{Input, Advance, Idle}
use Rattle.ceu_tree.specs.declared.kernel.Kernel.{Kernel}
use Rattle.ceu_tree.specs.declared.kernel.KNode.{KNode}
use Rattle.ceu_tree.specs.declared.kernel.KBlock.{KBlock}
use Rattle.ceu_tree.specs.declared.kernel.KStmt.{out-KStmt}
use Rattle.ceu_tree.specs.declared.kernel.KStmt.TheOpen.{KStmt-F}
use Rattle.ceu_tree.specs.Residual.{Body, Program, Act, Again, Residual, Run}
use Rattle.ceu_tree.specs.Focus.{Focus, plug, leaf, body_of, choose}
use Rattle.ceu_tree.specs.World.{World}
use Rattle.ceu_tree.specs.Wake.{each_leaf, leaves, runs_at, by_input, later, by_time, least_time, Unserved, unserved, new_round}
use Rattle.ceu_tree.specs.Around.{Outcome, Goes, Rests, Raises, Fails, Ends}
use Rattle.ceu_tree.specs.Step.{stepped}
use Rattle.ceu_tree.specs.Proper.{Scope, is_proper}
use Rattle.ceu_tree.specs.Run.{Config, Turning, Between, Waiting, Ended, Faulted, config_of, unless_failed, chosen_at, next, steps, booted, reacts, input, advance, is_again, Served, Unfinished, Turned, Done, Failed, serve, serve_first, after_serving, served, idle_turn, idle_turns, done, all_done, run}
use Rattle.laws_meaning_basics.specs.Shape.{Part, ABlock, AStatement, program_part, async_scope, TurnFits, in_trail, Comes, ConfigFits}
use Rattle.laws_meaning_basics.proofs.Leaves.{leaves_fit, round_fits}
use Rattle.laws_meaning_basics.proofs.Choice.{ChoiceFits, choice_fits}
use Rattle.laws_meaning_basics.proofs.UpFits.{Sound, layer_of}
use Rattle.laws_meaning_basics.proofs.StepFits.{Closed, around_sound, stepped_fits}
use Rattle.laws_meaning_basics.proofs.RunFits.{root_sound, turn_of_chosen, steps_fit, booted_fits, async_leaf, idle_turn_fits, done_fits}
use Rattle.laws_meaning_lawful.specs.Lawful.{Unfailed}
use Rattle.laws_meaning_lawful.proofs.Quiet.{stepped_calm, around_calm}

-- ---- a reaction, which a failed finalizer stops

outcome_unfailed : (n : ℕ) (x : Outcome) (w : World) → w.fault ≡ None → Unfailed (config_of n x w)
outcome_unfailed n (Fails e r) w h = tt
outcome_unfailed n (Ends v) w h = tt
outcome_unfailed n x w h = h

stopped : (w : World) (c : Config) → (w.fault ≡ None → Unfailed c) → Unfailed (unless_failed w c)
stopped w c h = go w.fault refl
  where
    go : (o : Option (Fault × Pos)) → w.fault ≡ o → Unfailed (elim o [ Some e ↦ Faulted e w | None ↦ c ])
    go None e = h e
    go (Some z) e = tt

chosen_unfailed : (n : ℕ) (o : Option (Focus Act)) (r : Residual) (w : World) → w.fault ≡ None → Unfailed (chosen_at n o r w)
chosen_unfailed n (Some f) r w h = h
chosen_unfailed zero None r w h = h
chosen_unfailed (suc n) None r w h = h

module _ (K : Kernel) where
  pub next_unfailed : (c : Config) → Unfailed c → Unfailed (next K c)
  unfolding next
  next_unfailed (Turning n f w) h = let m = stepped K n Program f w in stopped m.world (config_of n m.outcome m.world) (outcome_unfailed n m.outcome m.world)
  next_unfailed (Between n r w) h = chosen_unfailed n (choose Act (runs_at n) r) r w h
  next_unfailed (Waiting r w) h = h
  next_unfailed (Ended v w) h = h
  next_unfailed (Faulted e w) h = h

  steps_unfailed : (k : ℕ) (c : Config) → Unfailed c → Unfailed (steps K k c)
  unfolding steps
  steps_unfailed zero c h = h
  steps_unfailed (suc k) (Turning n f w) h = steps_unfailed k (next K (Turning n f w)) (next_unfailed (Turning n f w) h)
  steps_unfailed (suc k) (Between n r w) h = steps_unfailed k (next K (Between n r w)) (next_unfailed (Between n r w) h)
  steps_unfailed (suc k) (Waiting r w) h = h
  steps_unfailed (suc k) (Ended v w) h = h
  steps_unfailed (suc k) (Faulted e w) h = h

  input_unfailed : (k event : ℕ) (v : ℤ) (c : Config) → Unfailed c → Unfailed (input K k event v c)
  input_unfailed k event v (Waiting r w) h = steps_unfailed k (Between 0 (each_leaf (by_input event v) r) w) h
  input_unfailed k event v (Turning n f w) h = h
  input_unfailed k event v (Between n r w) h = h
  input_unfailed k event v (Ended x w) h = h
  input_unfailed k event v (Faulted e w) h = h

  advance_unfailed : (k j d : ℕ) (c : Config) → Unfailed c → Unfailed (advance K k j d c)
  unfolding advance
  advance_unfailed k zero d c h = h
  advance_unfailed k (suc j) d (Waiting r w) h = go (least_time (leaves r)) (λ m. advance_unfailed k j (d - m) (timed m) (steps_unfailed k (Between 0 (woken m) w) h))
    where
      woken : ℕ → Residual
      woken m = each_leaf (by_time (d - m)) (each_leaf (later m) r)

      timed : ℕ → Config
      timed m = reacts K k (woken m) w

      go : (o : Option ℕ) → ((m : ℕ) → Unfailed (advance K k j (d - m) (timed m))) → Unfailed (elim o [
        | None ↦ Waiting r w
        | Some m ↦ elim (nat_le m d) [
          | true ↦ advance K k j (d - m) (timed m)
          | false ↦ Waiting (each_leaf (later d) r) w
        ]
      ])
      go None ih = h
      go (Some m) ih = inner (nat_le m d)
        where
          inner : (b : Bool) → Unfailed (elim b [ true ↦ advance K k j (d - m) (timed m) | false ↦ Waiting (each_leaf (later d) r) w ])
          inner true = ih m
          inner false = h
  advance_unfailed k (suc j) d (Turning n f w) h = h
  advance_unfailed k (suc j) d (Between n r w) h = h
  advance_unfailed k (suc j) d (Ended x w) h = h
  advance_unfailed k (suc j) d (Faulted e w) h = h

  -- ---- asyncs, whose turns run no finalizer

  abbrev ServedUnfailed : Served → Type 0
  ServedUnfailed (Turned r w) = w.fault ≡ None
  ServedUnfailed (Done w) = w.fault ≡ None
  ServedUnfailed x = Unit {0}

  module _ (proper : is_proper K ≡ true) where
    -- the place of an async's trail
    record Apart (d : Part) : Type 0 where
      closed : Closed K proper d
      sound : Sound K proper d
      outside : in_trail d → ⊥

    serve_unfailed : (k : ℕ) (root : Body) (f : Focus Act) (w : World) (d : Part) → Apart d → TurnFits K 1 d f → w.fault ≡ None → ServedUnfailed (serve K k root f w)
    unfolding serve
    serve_unfailed zero root f w d p t h = tt
    serve_unfailed (suc k) root f w d p t h = go (stepped K 0 root f w).outcome (stepped_fits K proper 0 root f w d p.closed p.sound t) (λ g x. serve_unfailed k root g u d p x fine)
      where
        u : World
        u = (stepped K 0 root f w).world

        fine : u.fault ≡ None
        fine = stepped_calm K 0 root f w (around_calm K proper t.around p.sound p.outside) ∙ h

        go : (x : Outcome) → Comes K 0 d x → ((g : Focus Act) → TurnFits K 1 d g → ServedUnfailed (serve K k root g u)) → ServedUnfailed (elim x [
          | Goes g ↦ elim (is_again (leaf g)) [ true ↦ Turned (plug g (Run 0 Again)) u | false ↦ serve K k root g u ]
          | Fails e r ↦ Failed e r u
          | Rests r ↦ Turned r u
          | Raises r ↦ Turned r u
          | _ ↦ Done u
        ])
        go (Goes g) x ih = inner (is_again (leaf g))
          where
            inner : (b : Bool) → ServedUnfailed (elim b [ true ↦ Turned (plug g (Run 0 Again)) u | false ↦ serve K k root g u ])
            inner true = fine
            inner false = ih g x
        go (Fails e r) x ih = tt
        go y x ih = fine

    first_unfailed : (k : ℕ) (root : Body) (o : Option (Focus Act)) (r : Residual) (w : World) (d : Part) → Apart d → ChoiceFits K 1 Act (runs_at 0) d o → w.fault ≡ None
        → ServedUnfailed (serve_first K k root o r w)
    first_unfailed k root None r w d p c h = h
    first_unfailed k root (Some f) r w d p c h = serve_unfailed k root f w d p (turn_of_chosen K proper 0 d f c) h

    apart_async : (sc : Scope) (s : KNode) (b : KBlock) → out-KStmt s.stmt ≡ KStmt-F.Async b → Sound K proper (AStatement sc s) → Apart (ABlock false (async_scope K sc) b)
    apart_async sc s b e h = record { closed = λ node x y. false≢true x; sound = (layer_of K proper sc s (KStmt-F.Async b) e h).1; outside = λ x. false≢true x }

    after_unfailed : (k : ℕ) (g : Focus Unserved) (x : Served) (q : Residual) (u : World) → u.fault ≡ None → ServedUnfailed x → Unfailed (after_serving K k g x q u)
    after_unfailed k g Unfinished q u h x = h
    after_unfailed k g (Turned r w) q u h x = x
    after_unfailed k g (Done w) q u h x = steps_unfailed k _ x
    after_unfailed k g (Failed z r w) q u h x = tt

    served_unfailed : (k : ℕ) (o : Option (Focus Unserved)) (r : Residual) (w : World) → ChoiceFits K 0 Unserved unserved (program_part K) o → w.fault ≡ None → Unfailed (served K k o r w)
    served_unfailed k None r w c h = h
    served_unfailed k (Some g) r w c h =
        let l = async_leaf K proper c.part c.was (leaf g) c.fits c.picked in
        let p = apart_async l.scope (leaf g).stmt l.block l.layer (subst (Sound K proper) l.is (around_sound K proper c.around (root_sound K proper))) in
        after_unfailed k g _ r w h (first_unfailed k (body_of g Program) (choose Act (runs_at 0) (leaf g).inner) (leaf g).inner w _ p (choice_fits K 1 Act (runs_at 0) l.fits) h)

    idle_unfailed : (k : ℕ) (c : Config) → ConfigFits K c → Unfailed c → Unfailed (idle_turn K k c)
    idle_unfailed k (Waiting r w) t h = go (choose Unserved unserved r) (choice_fits K 0 Unserved unserved t)
      where
        again : Residual
        again = each_leaf new_round r

        go : (o : Option (Focus Unserved)) → ChoiceFits K 0 Unserved unserved (program_part K) o → Unfailed (elim o [ Some g ↦ served K k (Some g) r w | None ↦ served K k (choose Unserved unserved again) again w ])
        go (Some g) c = served_unfailed k (Some g) r w c h
        go None c = served_unfailed k (choose Unserved unserved again) again w (choice_fits K 0 Unserved unserved (leaves_fit K 0 0 new_round (round_fits K) t)) h
    idle_unfailed k (Turning n f w) t h = h
    idle_unfailed k (Between n r w) t h = h
    idle_unfailed k (Ended x w) t h = h
    idle_unfailed k (Faulted e w) t h = h

    idles_unfailed : (k j : ℕ) (c : Config) → ConfigFits K c → Unfailed c → Unfailed (idle_turns K k j c)
    idles_unfailed k zero c t h = h
    idles_unfailed k (suc j) c t h = idles_unfailed k j (idle_turn K k c) (idle_turn_fits K proper k c t) (idle_unfailed k c t h)

    pub done_unfailed : (k : ℕ) (x : Command) (c : Config) → ConfigFits K c → Unfailed c → Unfailed (done K k x c)
    unfolding done
    done_unfailed k (Input event v) c t h = input_unfailed k event v c h
    done_unfailed k (Advance us) c t h = advance_unfailed k (us + 1) us c h
    done_unfailed k (Idle j) c t h = idles_unfailed k j c t h

    all_unfailed : (k : ℕ) (xs : List Command) (c : Config) → ConfigFits K c → Unfailed c → Unfailed (all_done K k xs c)
    unfolding all_done
    all_unfailed k [] c t h = h
    all_unfailed k (x ∷ xs) c t h = all_unfailed k xs (done K k x c) (done_fits K proper k x c t) (done_unfailed k x c t h)

    run_unfailed : (k : ℕ) (xs : List Command) → Unfailed (run K k xs)
    unfolding run
    run_unfailed k xs = all_unfailed k xs (steps K k (booted K)) (steps_fit K proper k (booted K) (booted_fits K proper)) (steps_unfailed k (booted K) refl)

    pub waits_unfailed : (k : ℕ) (xs : List Command) (r : Residual) (w : World) → run K k xs ≡ Waiting r w → w.fault ≡ None
    waits_unfailed k xs r w e = subst Unfailed e (run_unfailed k xs)
