-- Where each reaction ends, and each turn of an async, each command and each run is over from some bound on.
use Rattle.std.proofs.Common.{◌≡◌, refl, sym, ap, ◌∙◌, subst, ◌≤◌, ℕ, zero, suc, ◌+◌, ◌-◌, ℤ, pos, nat_le, Bool, true, false, List, [], ◌∷◌, Option, Some, None, arith}
use Rattle.std.proofs.lemmas.Bool.{false≢true}
use Rattle.ceu_tree.specs.declared.command.Command.{Command}
use Rattle.ceu_tree.specs.declared.command.Command.TheVariants.{Input, Advance, Idle}
use Rattle.ceu_tree.specs.declared.kernel.Kernel.{Kernel}
use Rattle.ceu_tree.specs.declared.kernel.KNode.{KNode}
use Rattle.ceu_tree.specs.declared.kernel.KBlock.{KBlock}
use Rattle.ceu_tree.specs.declared.kernel.KStmt.{out-KStmt}
use Rattle.ceu_tree.specs.declared.kernel.KStmt.TheOpen.{KStmt-F}
use Rattle.ceu_tree.specs.Residual.{Body, Program, Act, Begin, Finish, Residual, Run, InAsync}
use Rattle.ceu_tree.specs.Focus.{Focus, plug, leaf, body_of, choose}
use Rattle.ceu_tree.specs.World.{World, empty_world}
use Rattle.ceu_tree.specs.Wake.{each_leaf, leaves, runs_at, by_input, later, by_time, least_time, Unserved, unserved, new_round}
use Rattle.ceu_tree.specs.Proper.{Scope, is_proper}
use Rattle.ceu_tree.specs.Run.{Config, Turning, Between, Waiting, Ended, Faulted, is_reacting, next, steps, booted, reacts, input, advance, faulted, Served, Unfinished, Turned, Done, Failed, serve, serve_first, after_serving, served, idle_turn, idle_turns, done, all_done, run}
use Rattle.laws_meaning_basics.proofs.StepLaws.{steps_stand}
use Rattle.laws_meaning_basics.proofs.FocusBalance.{FoundIn, choose_found}
use Rattle.laws_meaning_basics.specs.Shape.{ABlock, AStatement, program_part, async_scope, pauses, Fits, to_finish, Around}
use Rattle.laws_meaning_basics.proofs.Fits.{around_raised, plug_fits}
use Rattle.laws_meaning_basics.proofs.Leaves.{leaves_fit, by_input_fits, by_time_fits, later_fits, round_fits}
use Rattle.laws_meaning_basics.proofs.Choice.{ChoiceFits, choice_fits}
use Rattle.laws_meaning_basics.proofs.UpFits.{Sound, layer_of}
use Rattle.laws_meaning_basics.proofs.StepFits.{around_sound}
use Rattle.laws_meaning_basics.proofs.RunFits.{root_sound, next_fits, steps_fit, booted_fits, async_leaf, done_fits}
use Rattle.laws_meaning_instances.proofs.Living.{lives}
use Rattle.laws_meaning_instances.proofs.Trees.{live_focus, plug_lives}
use Rattle.laws_meaning_instances.proofs.Reactions.{ConfigCounts, counts_same, found_stands, instances_counted, instances_stand}
use Rattle.laws_meaning_instances.proofs.Commands.{AsyncPart, ServedCounts, by_input_calm, by_time_calm, later_calm, round_calm, leaves_counts, first_counts, unserved_lives, unserved_stands, after_counts}
use Rattle.laws_meaning_instances.proofs.Runs as living
use Rattle.ceu_endings.specs.Counted.{tree_counted}
use Rattle.ceu_endings.proofs.CountedTrees.{plugged, unplugged, leaves_kept}
use Rattle.ceu_endings.proofs.CountedRuns.{by_input_kept, by_time_kept, later_kept, round_kept, next_kept, steps_kept, done_kept, booted_kept}
use Rattle.laws_bounds_reach.specs.Standing.{pools_bare}
use Rattle.laws_bounds_reach.proofs.BareTrees as bare
use Rattle.laws_bounds_reach.proofs.Within.{bare_input, bare_time, bare_later}
use Rattle.laws_bounds_reach.proofs.BareRuns.{bare_round, booted_bare, next_bare, steps_bare, done_bare}
use Rattle.laws_bounds_turns.specs.TurnsLaws.{is_finished}
use Rattle.laws_bounds_reactions.specs.Steady.{IsSteady}
use Rattle.laws_bounds_reactions.proofs.Serving.{serve_stays}

-- ---- from some bound on

pub record Settles (F : ℕ → Config) : Type 0 where
  pub bound : ℕ
  pub is : (n : ℕ) → bound ≤ n → F n ≡ F bound
  pub over : is_reacting (F bound) ≡ false

still : (c : Config) → is_reacting c ≡ false → Settles (λ n. c)
still c e = record { bound = 0; is = λ n l. refl; over = e }

same_as : (F G : ℕ → Config) → ((n : ℕ) → G n ≡ F n) → Settles F → Settles G
same_as F G e s = record { bound = s.bound; is = λ n l. e n ∙ s.is n l ∙ sym (e s.bound); over = ap is_reacting (e s.bound) ∙ s.over }

-- one behind the other
behind : (F : ℕ → Config) (G : ℕ → Config → Config) → (s : Settles F) → Settles (λ n. G n (F s.bound)) → Settles (λ n. G n (F n))
behind F G s t =
    let b = s.bound + t.bound in
    let at : (n : ℕ) → b ≤ n → G n (F n) ≡ G t.bound (F s.bound) = λ n l. ap (G n) (s.is n (omega (arith, l))) ∙ t.is n (omega (arith, l)) in record {
      bound = b;
      is = λ n l. at n l ∙ sym (at b (omega arith));
      over = ap is_reacting (at b (omega arith)) ∙ t.over;
    }

-- ---- reactions, commands and runs

module _ (K : Kernel) (proper : is_proper K ≡ true) where
  pub async_part : (sc : Scope) (s : KNode) (b : KBlock) → out-KStmt s.stmt ≡ KStmt-F.Async b → Sound K proper (AStatement sc s) → AsyncPart K proper (ABlock false (async_scope K sc) b)
  async_part sc s b e h = record { closed = λ node x y. false≢true x; sound = (layer_of K proper sc s (KStmt-F.Async b) e h).1; apart = λ x. false≢true x }

  pub booted_steady : IsSteady K (booted K)
  booted_steady = record { fits = booted_fits K proper; counted = booted_kept K; instances = living.boot_stands K; bare = booted_bare K }

  pub next_steady : (c : Config) → IsSteady K c → IsSteady K (next K c)
  next_steady c h = record { fits = next_fits K proper c h.fits; counted = next_kept K c h.counted; instances = living.next_stands K proper c h.fits h.instances; bare = next_bare K proper c h.fits h.bare }

  pub steps_steady : (n : ℕ) (c : Config) → IsSteady K c → IsSteady K (steps K n c)
  steps_steady n c h = record { fits = steps_fit K proper n c h.fits; counted = steps_kept K n c h.counted; instances = living.steps_stand K proper n c h.fits h.instances; bare = steps_bare K proper n c h.fits h.bare }

  pub done_steady : (n : ℕ) (x : Command) (c : Config) → IsSteady K c → IsSteady K (done K n x c)
  done_steady n x c h = record { fits = done_fits K proper n x c h.fits; counted = done_kept K n x c h.counted; instances = living.done_stands K proper n x c h.fits h.instances; bare = done_bare K proper n x c h.fits h.bare }

  -- what waited, once it is woken
  pub input_steady : (event : ℕ) (v : ℤ) (r : Residual) (w : World) → IsSteady K (Waiting r w) → IsSteady K (Between 0 (each_leaf (by_input event v) r) w)
  input_steady event v r w h =
      let fits = leaves_fit K 0 1 (by_input event v) (by_input_fits K event v) h.fits in record {
        fits = fits;
        counted = leaves_kept (by_input event v) (by_input_kept event v) r h.counted;
        instances = instances_stand K proper (Between 0 (each_leaf (by_input event v) r) w) fits (leaves_counts (by_input event v) (by_input_calm event v) r w (instances_counted K proper (Waiting r w) h.fits h.instances));
        bare = bare.leaves_kept (by_input event v) (bare_input event v) r h.bare;
      }

  pub later_steady : (d : ℕ) (r : Residual) (w : World) → IsSteady K (Waiting r w) → IsSteady K (Waiting (each_leaf (later d) r) w)
  later_steady d r w h =
      let fits = leaves_fit K 0 0 (later d) (later_fits K d) h.fits in record {
        fits = fits;
        counted = leaves_kept (later d) (later_kept d) r h.counted;
        instances = instances_stand K proper (Waiting (each_leaf (later d) r) w) fits (leaves_counts (later d) (later_calm d) r w (instances_counted K proper (Waiting r w) h.fits h.instances));
        bare = bare.leaves_kept (later d) (bare_later d) r h.bare;
      }

  pub time_steady : (d : ℕ) (r : Residual) (w : World) → IsSteady K (Waiting r w) → IsSteady K (Between 0 (each_leaf (by_time d) r) w)
  time_steady d r w h =
      let fits = leaves_fit K 0 1 (by_time d) (by_time_fits K d) h.fits in record {
        fits = fits;
        counted = leaves_kept (by_time d) (by_time_kept d) r h.counted;
        instances = instances_stand K proper (Between 0 (each_leaf (by_time d) r) w) fits (leaves_counts (by_time d) (by_time_calm d) r w (instances_counted K proper (Waiting r w) h.fits h.instances));
        bare = bare.leaves_kept (by_time d) (bare_time d) r h.bare;
      }

  pub round_steady : (r : Residual) (w : World) → IsSteady K (Waiting r w) → IsSteady K (Waiting (each_leaf new_round r) w)
  round_steady r w h =
      let fits = leaves_fit K 0 0 new_round (round_fits K) h.fits in record {
        fits = fits;
        counted = leaves_kept new_round round_kept r h.counted;
        instances = instances_stand K proper (Waiting (each_leaf new_round r) w) fits (leaves_counts new_round round_calm r w (instances_counted K proper (Waiting r w) h.fits h.instances));
        bare = bare.leaves_kept new_round bare_round r h.bare;
      }

  -- what an async is served with keeps the program steady: its end too, where a reaction begins
  pub served_steady : (b : ℕ) (g : Focus Unserved) (r : Residual) (w u : World) → IsSteady K (Waiting r w) → choose Unserved unserved r ≡ Some g
      → serve_first K b (body_of g Program) (choose Act (runs_at 0) (leaf g).inner) (leaf g).inner w ≡ Done u → IsSteady K (Between 0 (plug g (Run 0 (Finish (leaf g).stmt (pos 0)))) u)
  unfolding steps tree_counted pools_bare
  served_steady b g r w u h e q =
      let l = living_at in record { fits = l.0; counted = counted_at; instances = instances_stand K proper (Between 0 (plug g (Run 0 (Finish (leaf g).stmt (pos 0)))) u) l.0 l.1; bare = bare_at }
    where
      chosen : ChoiceFits K 0 Unserved unserved (program_part K) (Some g)
      chosen = subst (ChoiceFits K 0 Unserved unserved (program_part K)) e (choice_fits K 0 Unserved unserved h.fits)

      found : FoundIn Unserved unserved r (Some g)
      found = subst (FoundIn Unserved unserved r) e (choose_found Unserved unserved r)

      finished : Residual
      finished = plug g (Run 0 (Finish (leaf g).stmt (pos 0)))

      counted_at : tree_counted finished
      counted_at = plugged g (Run 0 (Finish (leaf g).stmt (pos 0))) (unplugged g found.was (subst tree_counted (sym found.plugs) h.counted)).0 tt

      bare_at : pools_bare finished
      bare_at = bare.plugged g (Run 0 (Finish (leaf g).stmt (pos 0))) (bare.unplugged g found.was (subst pools_bare (sym found.plugs) h.bare)).0 tt

      living_at : Fits K 1 (program_part K) finished × ConfigCounts (Between 0 finished u)
      living_at =
          let l = async_leaf K proper chosen.part chosen.was (leaf g) chosen.fits chosen.picked in
          let a : Around K 0 Unserved g (program_part K) (AStatement l.scope (leaf g).stmt) = subst (Around K 0 Unserved g (program_part K)) l.is chosen.around in
          let p : AsyncPart K proper (ABlock false (async_scope K l.scope) l.block) = async_part l.scope (leaf g).stmt l.block l.layer (around_sound K proper a (root_sound K proper)) in
          let counts = instances_counted K proper (Waiting r w) h.fits h.instances in
          let f = found_stands unserved r g found counts.1 in
          let s = first_counts K proper (λ q. live_focus q g) b (body_of g Program) (choose Act (runs_at 0) (leaf g).inner) (leaf g).inner w _ p (choice_fits K 1 Act (runs_at 0) l.fits) (choose_found Act (runs_at 0) (leaf g).inner)
          (counts_same (λ q. lives q r) (λ q. lives q (leaf g).inner + live_focus q g) w w (record { living = refl; given = refl })
          (λ q. (let x = plug_lives q g found.was in let y = unserved_lives K proper q found.was (leaf g) found.picked in let z = ap (lives q) found.plugs in omega (arith, x, y, z))) counts.0)
          (unserved_stands K proper found.was (leaf g) found.picked f.1) in (
            plug_fits K (around_raised K {t = 0} {u = 1} (omega arith) a) (to_finish (omega arith) (ap pauses l.layer)),
            after_counts K proper 0 g (Done u) r w l.scope l.block a l.layer f.0 counts (subst (ServedCounts K proper (λ q. live_focus q g)) q s),
          )

  -- ---- where each reaction ends, and each turn of an async

  module _ (react : (n : ℕ) (r : Residual) (w : World) → IsSteady K (Between n r w) → (count : ℕ) × (is_reacting (steps K count (Between n r w)) ≡ false))
      (serves : (root : Body) (f : Focus Act) (w : World) → (count : ℕ) × (is_finished (serve K count root f w) ≡ true)) where
    reaction_settles : (r : Residual) (w : World) → IsSteady K (Between 0 r w) → Settles (λ n. reacts K n r w)
    reaction_settles r w h = let x = react 0 r w h in record { bound = x.0; is = λ n l. steps_stand K x.0 n (Between 0 r w) l x.1; over = x.1 }

    input_settles : (event : ℕ) (v : ℤ) (c : Config) → IsSteady K c → is_reacting c ≡ false → Settles (λ n. input K n event v c)
    input_settles event v (Waiting r w) h e = reaction_settles (each_leaf (by_input event v) r) w (input_steady event v r w h)
    input_settles event v (Turning n f w) h e = still (Turning n f w) e
    input_settles event v (Between n r w) h e = still (Between n r w) e
    input_settles event v (Ended x w) h e = still (Ended x w) e
    input_settles event v (Faulted x w) h e = still (Faulted x w) e

    advance_settles : (j d : ℕ) (c : Config) → IsSteady K c → is_reacting c ≡ false → Settles (λ n. advance K n j d c)
    unfolding advance
    advance_settles zero d c h e = still c e
    advance_settles (suc j) d (Waiting r w) h e = go (least_time (leaves r)) (λ m c x y. advance_settles j (d - m) c x y)
      where
        woken : ℕ → Residual
        woken m = each_leaf (by_time (d - m)) (each_leaf (later m) r)

        go : (o : Option ℕ) → ((m : ℕ) (c : Config) → IsSteady K c → is_reacting c ≡ false → Settles (λ n. advance K n j (d - m) c)) → Settles (λ n. elim o [
          | None ↦ Waiting r w
          | Some m ↦ elim (nat_le m d) [
            | true ↦ advance K n j (d - m) (reacts K n (woken m) w)
            | false ↦ Waiting (each_leaf (later d) r) w
          ]
        ])
        go None ih = still (Waiting r w) refl
        go (Some m) ih = inner (nat_le m d)
          where
            inner : (b : Bool) → Settles (λ n. elim b [ true ↦ advance K n j (d - m) (reacts K n (woken m) w) | false ↦ Waiting (each_leaf (later d) r) w ])
            inner true =
                let at = time_steady (d - m) (each_leaf (later m) r) w (later_steady m r w h) in
                let s = reaction_settles (woken m) w at in
                behind (λ n. reacts K n (woken m) w) (λ n c. advance K n j (d - m) c) s (ih m (reacts K s.bound (woken m) w) (steps_steady s.bound (Between 0 (woken m) w) at) s.over)
            inner false = still (Waiting (each_leaf (later d) r) w) refl
    advance_settles (suc j) d (Turning n f w) h e = still (Turning n f w) e
    advance_settles (suc j) d (Between n r w) h e = still (Between n r w) e
    advance_settles (suc j) d (Ended x w) h e = still (Ended x w) e
    advance_settles (suc j) d (Faulted x w) h e = still (Faulted x w) e

    -- of an async that is served
    record Serves (F : ℕ → Served) : Type 0 where
      bound : ℕ
      is : (n : ℕ) → bound ≤ n → F n ≡ F bound
      whole : is_finished (F bound) ≡ true

    first_serves : (root : Body) (o : Option (Focus Act)) (r : Residual) (w : World) → Serves (λ n. serve_first K n root o r w)
    first_serves root None r w = record { bound = 0; is = λ n l. refl; whole = refl }
    first_serves root (Some f) r w = let x = serves root f w in record { bound = x.0; is = λ n l. serve_stays K x.0 n root f w l x.1; whole = x.1 }

    after_settles : (g : Focus Unserved) (r : Residual) (w : World) (x : Served) → is_finished x ≡ true → ((u : World) → x ≡ Done u → IsSteady K (Between 0 (plug g (Run 0 (Finish (leaf g).stmt (pos 0)))) u)) → Settles (λ n. after_serving K n g x r w)
    after_settles g r w Unfinished e h = absurd (false≢true e)
    after_settles g r w (Turned q u) e h = still (Waiting (plug g (InAsync (leaf g).stmt true q)) u) refl
    after_settles g r w (Done u) e h = reaction_settles (plug g (Run 0 (Finish (leaf g).stmt (pos 0)))) u (h u refl)
    after_settles g r w (Failed y q u) e h = still (faulted y (plug g (InAsync (leaf g).stmt true q)) u) refl

    served_settles : (r : Residual) (w : World) (o : Option (Focus Unserved)) → choose Unserved unserved r ≡ o → IsSteady K (Waiting r w) → Settles (λ n. served K n o r w)
    served_settles r w None e h = still (Waiting r w) refl
    served_settles r w (Some g) e h =
        let serving : ℕ → Served = λ n. serve_first K n (body_of g Program) (choose Act (runs_at 0) (leaf g).inner) (leaf g).inner w in
        let s = first_serves (body_of g Program) (choose Act (runs_at 0) (leaf g).inner) (leaf g).inner w in
        let t = after_settles g r w (serving s.bound) s.whole (λ u q. served_steady s.bound g r w u h e q) in
        let b = s.bound + t.bound in
        let at : (n : ℕ) → b ≤ n → after_serving K n g (serving n) r w ≡ after_serving K t.bound g (serving s.bound) r w =
        λ n m. ap (λ x. after_serving K n g x r w) (s.is n (omega (arith, m))) ∙ t.is n (omega (arith, m)) in
        record { bound = b; is = λ n m. at n m ∙ sym (at b (omega arith)); over = ap is_reacting (at b (omega arith)) ∙ t.over }

    idle_settles : (c : Config) → IsSteady K c → is_reacting c ≡ false → Settles (λ n. idle_turn K n c)
    idle_settles (Waiting r w) h e = go (choose Unserved unserved r) refl
      where
        again : Residual
        again = each_leaf new_round r

        go : (o : Option (Focus Unserved)) → choose Unserved unserved r ≡ o → Settles (λ n. elim o [ Some g ↦ served K n (Some g) r w | None ↦ served K n (choose Unserved unserved again) again w ])
        go (Some g) q = served_settles r w (Some g) q h
        go None q = served_settles again w (choose Unserved unserved again) refl (round_steady r w h)
    idle_settles (Turning n f w) h e = still (Turning n f w) e
    idle_settles (Between n r w) h e = still (Between n r w) e
    idle_settles (Ended x w) h e = still (Ended x w) e
    idle_settles (Faulted x w) h e = still (Faulted x w) e

    idle_steady : (n : ℕ) (c : Config) → IsSteady K c → IsSteady K (idle_turn K n c)
    unfolding done
    idle_steady n c h = done_steady n (Idle 1) c h

    idles_settle : (j : ℕ) (c : Config) → IsSteady K c → is_reacting c ≡ false → Settles (λ n. idle_turns K n j c)
    idles_settle zero c h e = still c e
    idles_settle (suc j) c h e =
        let s = idle_settles c h e in behind (λ n. idle_turn K n c) (λ n d. idle_turns K n j d) s (idles_settle j (idle_turn K s.bound c) (idle_steady s.bound c h) s.over)

    pub command_settles : (x : Command) (c : Config) → IsSteady K c → is_reacting c ≡ false → Settles (λ n. done K n x c)
    unfolding done
    command_settles (Input event v) c h e = input_settles event v c h e
    command_settles (Advance us) c h e = advance_settles (us + 1) us c h e
    command_settles (Idle j) c h e = idles_settle j c h e

    all_settle : (xs : List Command) (c : Config) → IsSteady K c → is_reacting c ≡ false → Settles (λ n. all_done K n xs c)
    unfolding all_done
    all_settle [] c h e = still c e
    all_settle (x ∷ xs) c h e = let s = command_settles x c h e in behind (λ n. done K n x c) (λ n d. all_done K n xs d) s (all_settle xs (done K s.bound x c) (done_steady s.bound x c h) s.over)

    pub run_settles : (xs : List Command) → Settles (λ n. run K n xs)
    unfolding run
    run_settles xs =
        let b = reaction_settles (Run 0 (Begin K.body)) empty_world booted_steady in
        behind (λ n. steps K n (booted K)) (λ n c. all_done K n xs c) b (all_settle xs (steps K b.bound (booted K)) (steps_steady b.bound (booted K) booted_steady) b.over)
