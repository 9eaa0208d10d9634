-- Commands and runs of a proper kernel keep the counters of open loops.
use Rattle.std.proofs.Common.{◌≡◌, refl, sym, ap, ◌∙◌, subst, ◌≤◌, ◌<◌, ℕ, zero, suc, ◌+◌, ◌-◌, ◌*◌, ℤ, pos, nat_le, Bool, true, false, ◌⊎◌, inl, inr, List, [], ◌∷◌, Option, Some, None, arith}
use Rattle.std.proofs.lemmas.Bool.{cases_lt, false≢true}
use Rattle.ceu_tree.specs.declared.command.Command.{Command}
use Rattle.ceu_tree.specs.declared.command.Command.TheVariants.{Input, Advance, Idle}
use Rattle.ceu_tree.specs.declared.kernel.Kernel.{Kernel}
use Rattle.ceu_tree.specs.declared.kernel.KBlock.{KBlock}
use Rattle.ceu_tree.specs.declared.kernel.KStmt.{out-KStmt}
use Rattle.ceu_tree.specs.declared.kernel.KStmt.TheOpen.{KStmt-F}
use Rattle.ceu_tree.specs.Residual.{Body, Program, Act, Begin, Start, Finish, AtEnd, AtHead, Again, Residual, Run, InAsync}
use Rattle.ceu_tree.specs.Focus.{Focus, plug, leaf, body_of, choose}
use Rattle.ceu_tree.specs.World.{World, Cell}
use Rattle.ceu_tree.specs.Wake.{each_leaf, leaves, runs_at, by_input, later, by_time, least_time, Unserved, unserved, new_round}
use Rattle.ceu_tree.specs.Leaf as does
use Rattle.ceu_tree.specs.Leaf.{Does, acted}
use Rattle.ceu_tree.specs.Around.{Outcome, Goes, Rests, Raises, Fails, Past, Registers, AtBlockEnd, AtLoopHead, Ends, Leaves}
use Rattle.ceu_tree.specs.Step.{stepped}
use Rattle.ceu_tree.specs.Proper.{Scope, is_proper}
use Rattle.ceu_tree.specs.Run.{Config, Turning, Between, Waiting, Ended, Faulted, steps, booted, reacts, input, advance, is_again, Served, Unfinished, Turned, Done, Failed, serve, serve_first, after_serving, served, idle_turn, idle_turns, done, all_done, run}
use Rattle.laws_meaning_basics.proofs.FocusBalance.{FoundIn, choose_found}
use Rattle.laws_meaning_basics.specs.Shape.{Part, ABlock, AStatement, program_part, async_scope, pauses, Fits, to_finish, Around, TurnFits, in_trail, Comes, ConfigFits}
use Rattle.laws_meaning_basics.proofs.Fits.{around_raised, plug_fits}
use Rattle.laws_meaning_basics.proofs.Leaves.{leaves_fit, by_input_fits, by_time_fits, later_fits, round_fits}
use Rattle.laws_meaning_basics.proofs.Choice.{ChoiceFits, choice_fits}
use Rattle.laws_meaning_basics.proofs.UpFits.{Sound, layer_of}
use Rattle.laws_meaning_basics.proofs.StepFits.{Closed, around_sound, around_trail, stepped_fits}
use Rattle.laws_meaning_basics.proofs.RunFits.{root_sound, turn_of_chosen, steps_fit, booted_fits, async_leaf, idle_turn_fits, done_fits}
use Rattle.laws_meaning_values.specs.Ground.{Ground, On}
use Rattle.laws_meaning_values.proofs.Grounds.{inner_ground, program_ground}
use Rattle.laws_meaning_instances.proofs.Living.{lives}
use Rattle.laws_meaning_instances.specs.Instances.{pools_stand}
use Rattle.laws_meaning_instances.proofs.Trees.{live_focus, focus_stands, plug_lives, plugged as pools_plugged}
use Rattle.laws_meaning_instances.proofs.Up.{left_whole}
use Rattle.laws_meaning_instances.proofs.Rooms.{Room, acted_room}
use Rattle.laws_meaning_instances.proofs.Steps.{SpawnFine, stepped_moves as living_moves}
use Rattle.laws_meaning_instances.proofs.Lists.{Counts}
use Rattle.laws_meaning_instances.proofs.Reactions.{ConfigCounts, counts_same, counts_moved, chosen_lives, found_stands, steps_counts, booted_counts}
use Rattle.laws_meaning_instances.proofs.Commands.{done_counts}
use Rattle.laws_meaning_counters.specs.Counters.{loops_stand, is_first, focus_loops_stand}
use Rattle.laws_meaning_counters.proofs.Cells.{cell_in}
use Rattle.laws_meaning_counters.proofs.Grips.{point, focus_grip, leaf_point, focus_settled}
use Rattle.laws_meaning_counters.proofs.CountersTrees.{plugged, unplugged, leaves_kept}
use Rattle.laws_meaning_counters.proofs.Marks.{kernel_marks, layer_none}
use Rattle.laws_meaning_counters.proofs.Clear.{Clear, program_clear, around_clear}
use Rattle.laws_meaning_counters.proofs.Bodies.{root, cap, cap_inner}
use Rattle.laws_meaning_counters.proofs.Bounds.{around_within}
use Rattle.laws_meaning_counters.proofs.Loopless.{ConfigStands}
use Rattle.laws_meaning_counters.proofs.Up.{OutcomeStands, Moves}
use Rattle.laws_meaning_counters.proofs.CountersSteps.{stepped_moves}
use Rattle.laws_meaning_counters.proofs.Calms.{by_input_calm, by_time_calm, later_calm, round_calm, TreeCounts, leaves_counts, unserved_lives, by_input_loops, by_time_loops, later_loops, round_loops, unserved_loops}
use Rattle.laws_meaning_counters.proofs.Reactions.{program_most, root_ground, steps_stand}

again_later : (a : Act) → is_again a ≡ true → is_first a ≡ false
again_later Again e = refl
again_later AtHead e = absurd (false≢true e)
again_later (Begin c) e = refl
again_later (Start s) e = refl
again_later (Finish s v) e = refl
again_later AtEnd e = refl

module _ (K : Kernel) (proper : is_proper K ≡ true) (b : Body) (x : ℕ) (clean : kernel_marks true x K ≡ 0) where
  abbrev TreeStands : Residual → World → Type 0
  TreeStands r w = loops_stand b x (cell_in b x w) Program r

  reacts_stand : (m : ℕ) (r : Residual) (w : World) → Fits K 1 (program_part K) r → TreeCounts r w → TreeStands r w → ConfigStands b x (reacts K m r w)
  reacts_stand m r w t h st = steps_stand K proper b x clean m (Between 0 r w) t h st

  input_stands : (m event : ℕ) (v : ℤ) (c : Config) → ConfigFits K c → ConfigCounts c → ConfigStands b x c → ConfigStands b x (input K m event v c)
  input_stands m event v (Waiting r w) t h st =
      reacts_stand m (each_leaf (by_input event v) r) w (leaves_fit K 0 1 (by_input event v) (by_input_fits K event v) t) (leaves_counts (by_input event v) (by_input_calm event v) r w h)
      (leaves_kept b x (cell_in b x w) (by_input event v) (by_input_loops b x (cell_in b x w) event v) Program r st)
  input_stands m event v (Turning n f w) t h st = st
  input_stands m event v (Between n r w) t h st = st
  input_stands m event v (Ended y w) t h st = st
  input_stands m event v (Faulted e w) t h st = st

  later_stands : (d : ℕ) (r : Residual) (w : World) → TreeStands r w → TreeStands (each_leaf (later d) r) w
  later_stands d r w st = leaves_kept b x (cell_in b x w) (later d) (later_loops b x (cell_in b x w) d) Program r st

  advance_stands : (k j d : ℕ) (c : Config) → ConfigFits K c → ConfigCounts c → ConfigStands b x c → ConfigStands b x (advance K k j d c)
  unfolding advance
  advance_stands k zero d c t h st = st
  advance_stands k (suc j) d (Waiting r w) t h st = go (least_time (leaves r)) (λ m. advance_stands k j (d - m) (timed m) (timed_fits m) (timed_counts m) (timed_stands m))
    where
      timed : ℕ → Config
      timed m = reacts K k (each_leaf (by_time (d - m)) (each_leaf (later m) r)) w

      fits : (m : ℕ) → Fits K 1 (program_part K) (each_leaf (by_time (d - m)) (each_leaf (later m) r))
      fits m = leaves_fit K 0 1 (by_time (d - m)) (by_time_fits K (d - m)) (leaves_fit K 0 0 (later m) (later_fits K m) t)

      counts : (m : ℕ) → TreeCounts (each_leaf (by_time (d - m)) (each_leaf (later m) r)) w
      counts m = leaves_counts (by_time (d - m)) (by_time_calm (d - m)) (each_leaf (later m) r) w (leaves_counts (later m) (later_calm m) r w h)

      timed_fits : (m : ℕ) → ConfigFits K (timed m)
      timed_fits m = steps_fit K proper k (Between 0 (each_leaf (by_time (d - m)) (each_leaf (later m) r)) w) (fits m)

      timed_counts : (m : ℕ) → ConfigCounts (timed m)
      timed_counts m = steps_counts K proper k (Between 0 (each_leaf (by_time (d - m)) (each_leaf (later m) r)) w) (fits m) (counts m)

      timed_stands : (m : ℕ) → ConfigStands b x (timed m)
      timed_stands m = reacts_stand k (each_leaf (by_time (d - m)) (each_leaf (later m) r)) w (fits m) (counts m)
          (leaves_kept b x (cell_in b x w) (by_time (d - m)) (by_time_loops b x (cell_in b x w) (d - m)) Program (each_leaf (later m) r) (later_stands m r w st))

      go : (o : Option ℕ) → ((m : ℕ) → ConfigStands b x (advance K k j (d - m) (timed m))) → ConfigStands b x (elim o [
        | None ↦ Waiting r w
        | Some m ↦ elim (nat_le m d) [
          | true ↦ advance K k j (d - m) (timed m)
          | false ↦ Waiting (each_leaf (later d) r) w
        ]
      ])
      go None ih = st
      go (Some m) ih = inner (nat_le m d)
        where
          inner : (t : Bool) → ConfigStands b x (elim t [ true ↦ advance K k j (d - m) (timed m) | false ↦ Waiting (each_leaf (later d) r) w ])
          inner true = ih m
          inner false = later_stands d r w st
  advance_stands k (suc j) d (Turning n f w) t h st = st
  advance_stands k (suc j) d (Between n r w) t h st = st
  advance_stands k (suc j) d (Ended y w) t h st = st
  advance_stands k (suc j) d (Faulted e w) t h st = st

  -- ---- asyncs, in which nothing is spawned

  record AsyncPart (d : Part) : Type 0 where
    closed : Closed K proper d
    sound : Sound K proper d
    clear : Clear b x K clean d
    apart : in_trail d → ⊥

  apart_fine : {t : ℕ} {f : Focus Act} {d e : Part} (y : Does) → AsyncPart d → Around K t Act f d e → Room K proper e y → SpawnFine f y
  apart_fine (does.Spawns s c code pool alias vs) p a r = absurd (p.apart (around_trail K proper a p.sound r.0))
  apart_fine (does.Opens y) p a r = tt
  apart_fine (does.Waits y) p a r = tt
  apart_fine does.Passes p a r = tt
  apart_fine (does.Leaves node y) p a r = tt
  apart_fine (does.Registers s) p a r = tt
  apart_fine does.Ends p a r = tt
  apart_fine does.Heads p a r = tt
  apart_fine (does.Emits s event v) p a r = tt
  apart_fine (does.Kills k) p a r = tt
  apart_fine (does.Fails e) p a r = tt

  -- An async's part d of the open body `at`, on the ground g; outside it are so many instances, and something outside has hold of the slot as far as `o`.
  record Inside (c : ℕ → ℕ) (o : ℕ) (at : Body) (d : Part) (g : Ground) : Type 0 where
    part : AsyncPart d
    on : On d g
    room : point b x at ≤ o
    most : o + cap b x at g ≤ point b x Program + cap b x Program (root_ground K) + 3 * c (root b)

  -- what is left of the async, and that the slot is as it was where something outside has it
  abbrev ServedStands : (ℕ → ℕ) → ℕ → Body → Option Cell → Served → Type 0
  ServedStands c o at start (Turned r w) = loops_stand b x (cell_in b x w) at r × (2 < o → cell_in b x w ≡ start)
  ServedStands c o at start (Done w) = Counts (λ p. 0 + c p) w × (2 < o → cell_in b x w ≡ start)
  ServedStands c o at start y = Unit {0}

  serve_stands : (c : ℕ → ℕ) (o : ℕ) (at : Body) (d : Part) (g : Ground) (start : Option Cell) (k : ℕ) (f : Focus Act) (w : World) → Inside c o at d g → TurnFits K 1 d f → Counts (λ p. live_focus p f + c p) w → focus_loops_stand b x (cell_in b x w) is_first at f
      → (2 < o → cell_in b x w ≡ start) → ServedStands c o at start (serve K k at f w)
  unfolding serve loops_stand
  serve_stands c o at d g start zero f w i t h st same = tt
  serve_stands c o at d g start (suc k) f w i t h st same =
      go (stepped K 0 at f w).outcome (stepped_fits K proper 0 at f w d i.part.closed i.part.sound t) (counts_moved (λ p. live_focus p f) (λ p. left_whole p (stepped K 0 at f w).outcome) c w u (living_moves K 0 at f w fine) h) moves.stands
      (λ y t2 h2 st2. serve_stands c o at d g start k y u i t2 h2 st2 kept)
    where
      u : World
      u = (stepped K 0 at f w).world

      fine : SpawnFine f (acted K 0 (body_of f at) (leaf f) w).does
      fine = apart_fine (acted K 0 (body_of f at) (leaf f) w).does i.part t.around (acted_room K proper 0 (body_of f at) t.part (leaf f) w (around_sound K proper t.around i.part.sound) t.acts)

      most : o + focus_grip b x at f ≤ 3
      most =
          let j = (around_within K proper b x f d t.part t.around at g i.on).bound in
          let l = program_most b x (λ p. live_focus p f + c p) w (root_ground K) h in
          let m = i.most in
          omega (arith, j, l, m)

      moves : Moves K proper b x clean 0 at (focus_grip b x at f) w (stepped K 0 at f w)
      moves = stepped_moves K proper b x clean 0 at f w d o i.part.closed t i.part.sound i.part.clear i.room most st

      kept : 2 < o → cell_in b x u ≡ start
      kept l = moves.kept (let m = most in omega (arith, m, l)) ∙ same l

      go : (y : Outcome) → Comes K 0 d y → Counts (λ p. left_whole p y + c p) u → OutcomeStands K proper b x clean 0 (cell_in b x u) at y
          → ((z : Focus Act) → TurnFits K 1 d z → Counts (λ p. live_focus p z + c p) u → focus_loops_stand b x (cell_in b x u) is_first at z → ServedStands c o at start (serve K k at z u))
          → ServedStands c o at start (elim y [
            | Goes z ↦ elim (is_again (leaf z)) [ true ↦ Turned (plug z (Run 0 Again)) u | false ↦ serve K k at z u ]
            | Fails e r ↦ Failed e r u
            | Rests r ↦ Turned r u
            | Raises r ↦ Turned r u
            | _ ↦ Done u
          ])
      go (Goes z) t2 h2 st2 ih = inner (is_again (leaf z)) refl
        where
          inner : (a : Bool) → is_again (leaf z) ≡ a → ServedStands c o at start (elim a [ true ↦ Turned (plug z (Run 0 Again)) u | false ↦ serve K k at z u ])
          inner true e = (plugged b x (cell_in b x u) is_first at z (Run 0 Again) (again_later (leaf z) e) st2 tt, kept)
          inner false e = ih z t2 h2 st2
      go (Fails e r) t2 h2 st2 ih = tt
      go (Rests r) t2 h2 st2 ih = (st2, kept)
      go (Raises r) t2 h2 st2 ih = (st2, kept)
      go (Ends v) t2 h2 st2 ih = (h2, kept)
      go Past t2 h2 st2 ih = (h2, kept)
      go (Registers q) t2 h2 st2 ih = (h2, kept)
      go AtBlockEnd t2 h2 st2 ih = (h2, kept)
      go AtLoopHead t2 h2 st2 ih = (h2, kept)
      go (Leaves node z) t2 h2 st2 ih = (h2, kept)

  first_stands : (c : ℕ → ℕ) (o : ℕ) (at : Body) (d : Part) (g : Ground) (k : ℕ) (y : Option (Focus Act)) (r : Residual) (w : World) → Inside c o at d g → ChoiceFits K 1 Act (runs_at 0) d y → FoundIn Act (runs_at 0) r y
      → Counts (λ p. lives p r + c p) w → loops_stand b x (cell_in b x w) at r → ServedStands c o at (cell_in b x w) (serve_first K k at y r w)
  first_stands c o at d g k None r w i t f h st = (st, λ l. refl)
  first_stands c o at d g k (Some z) r w i t f h st =
      serve_stands c o at d g (cell_in b x w) k z w i (turn_of_chosen K proper 0 d z t)
      (counts_same (λ p. lives p r + c p) (λ p. live_focus p z + c p) w w (record { living = refl; given = refl }) (λ p. (let e = chosen_lives p 0 r z f in omega (arith, e))) h)
      (unplugged b x (cell_in b x w) is_first at z f.was (subst (loops_stand b x (cell_in b x w) at) (sym f.plugs) st)).0 (λ l. refl)

  abbrev later_leaf : Unserved → Bool
  later_leaf y = false

  -- the parts around an async, after it was served
  beside : (g : Focus Unserved) (w u : World) → focus_loops_stand b x (cell_in b x w) later_leaf Program g → (2 < point b x Program + focus_grip b x Program g → cell_in b x u ≡ cell_in b x w) → focus_loops_stand b x (cell_in b x u) later_leaf Program g
  beside g w u st k = go (cases_lt 2 (point b x Program + focus_grip b x Program g))
    where
      go : (2 < point b x Program + focus_grip b x Program g) ⊎ (point b x Program + focus_grip b x Program g ≤ 2) → focus_loops_stand b x (cell_in b x u) later_leaf Program g
      go (inl l) = subst (λ y. focus_loops_stand b x y later_leaf Program g) (sym (k l)) st
      go (inr l) = focus_settled b x (cell_in b x u) later_leaf Program g l

  after_stands : (k : ℕ) (g : Focus Unserved) (y : Served) (r : Residual) (w : World) (sc : Scope) (c : KBlock) → Around K 0 Unserved g (program_part K) (AStatement sc (leaf g).stmt) → out-KStmt (leaf g).stmt.stmt ≡ KStmt-F.Async c
      → focus_stands g → focus_loops_stand b x (cell_in b x w) later_leaf Program g → TreeStands r w → ServedStands (λ p. live_focus p g) (point b x Program + focus_grip b x Program g) (body_of g Program) (cell_in b x w) y → ConfigStands b x (after_serving K k g y r w)
  unfolding loops_stand lives pools_stand
  after_stands k g Unfinished r w sc c a e ps gs st h = st
  after_stands k g (Turned q u) r w sc c a e ps gs st h = plugged b x (cell_in b x u) later_leaf Program g (InAsync (leaf g).stmt true q) refl (beside g w u gs h.1) h.0
  after_stands k g (Done u) r w sc c a e ps gs st h =
      reacts_stand k (plug g (Run 0 (Finish (leaf g).stmt (pos 0)))) u (plug_fits K (around_raised K (omega arith) a) (to_finish (omega arith) (ap pauses e)))
      (counts_same (λ p. 0 + live_focus p g) (λ p. lives p (plug g (Run 0 (Finish (leaf g).stmt (pos 0))))) u u (record { living = refl; given = refl }) (λ p. (let z = plug_lives p g (Run 0 (Finish (leaf g).stmt (pos 0))) in omega (arith, z))) h.0, pools_plugged g (Run 0 (Finish (leaf g).stmt (pos 0))) ps tt)
      (plugged b x (cell_in b x u) later_leaf Program g (Run 0 (Finish (leaf g).stmt (pos 0))) refl (beside g w u gs h.1) tt)
  after_stands k g (Failed z q u) r w sc c a e ps gs st h = tt

  served_stands : (k : ℕ) (o : Option (Focus Unserved)) (r : Residual) (w : World) → ChoiceFits K 0 Unserved unserved (program_part K) o → FoundIn Unserved unserved r o → TreeCounts r w → TreeStands r w → ConfigStands b x (served K k o r w)
  served_stands k None r w t f h st = st
  served_stands k (Some g) r w t f h st =
      let l = async_leaf K proper t.part t.was (leaf g) t.fits t.picked in
      let a : Around K 0 Unserved g (program_part K) (AStatement l.scope (leaf g).stmt) = subst (Around K 0 Unserved g (program_part K)) l.is t.around in
      let ps = found_stands unserved r g f h.1 in
      let gs = unplugged b x (cell_in b x w) later_leaf Program g f.was (subst (loops_stand b x (cell_in b x w) Program) (sym f.plugs) st) in
      let cl = around_clear b x K clean a (program_clear b x K clean) in
      let j = around_within K proper b x g (program_part K) (AStatement l.scope (leaf g).stmt) a Program (root_ground K) (program_ground K proper) in
      let i = inner_ground (leaf g).stmt (KStmt-F.Async l.block) j.ground l.layer j.on in
      let within = cap_inner b x (body_of g Program) i.ground j.ground i.inner in
      let bound = j.bound in
      after_stands k g _ r w l.scope l.block a l.layer ps.0 gs.0 st
      (first_stands (λ q. live_focus q g) (point b x Program + focus_grip b x Program g) (body_of g Program) (ABlock false (async_scope K l.scope) l.block) i.ground k (choose Act (runs_at 0) (leaf g).inner) (leaf g).inner w
      (record {
        part = record {
          closed = λ node u v. false≢true u;
          sound = (layer_of K proper l.scope (leaf g).stmt (KStmt-F.Async l.block) l.layer (around_sound K proper a (root_sound K proper))).1;
          clear = (cl.0, layer_none true x (leaf g).stmt (KStmt-F.Async l.block) l.layer cl.1);
          apart = λ u. false≢true u;
        };
        on = i.on;
        room = leaf_point b x Program g;
        most = omega (arith, within, bound);
      }) (choice_fits K 1 Act (runs_at 0) l.fits) (choose_found Act (runs_at 0) (leaf g).inner)
      (counts_same (λ q. lives q r) (λ q. lives q (leaf g).inner + live_focus q g) w w (record { living = refl; given = refl })
      (λ q. (let u = plug_lives q g f.was in let v = unserved_lives q f.was (leaf g) f.picked in let z = ap (lives q) f.plugs in omega (arith, u, v, z))) h.0)
      (unserved_loops b x (cell_in b x w) (body_of g Program) f.was (leaf g) f.picked gs.1))

  idle_turn_stands : (k : ℕ) (c : Config) → ConfigFits K c → ConfigCounts c → ConfigStands b x c → ConfigStands b x (idle_turn K k c)
  idle_turn_stands k (Waiting r w) t h st = go (choose Unserved unserved r) (choice_fits K 0 Unserved unserved t) (choose_found Unserved unserved r)
    where
      again : Residual
      again = each_leaf new_round r

      go : (o : Option (Focus Unserved)) → ChoiceFits K 0 Unserved unserved (program_part K) o → FoundIn Unserved unserved r o
          → ConfigStands b x (elim o [ Some g ↦ served K k (Some g) r w | None ↦ served K k (choose Unserved unserved again) again w ])
      go (Some g) c f = served_stands k (Some g) r w c f h st
      go None c f =
          served_stands k (choose Unserved unserved again) again w (choice_fits K 0 Unserved unserved (leaves_fit K 0 0 new_round (round_fits K) t)) (choose_found Unserved unserved again) (leaves_counts new_round round_calm r w h)
          (leaves_kept b x (cell_in b x w) new_round (round_loops b x (cell_in b x w)) Program r st)
  idle_turn_stands k (Turning n f w) t h st = st
  idle_turn_stands k (Between n r w) t h st = st
  idle_turn_stands k (Ended y w) t h st = st
  idle_turn_stands k (Faulted e w) t h st = st

  one_idle : (k : ℕ) (c : Config) → ConfigFits K c → ConfigCounts c → ConfigCounts (idle_turn K k c)
  unfolding done
  one_idle k c t h = done_counts K proper k (Idle 1) c t h

  idle_turns_stand : (k j : ℕ) (c : Config) → ConfigFits K c → ConfigCounts c → ConfigStands b x c → ConfigStands b x (idle_turns K k j c)
  idle_turns_stand k zero c t h st = st
  idle_turns_stand k (suc j) c t h st = idle_turns_stand k j (idle_turn K k c) (idle_turn_fits K proper k c t) (one_idle k c t h) (idle_turn_stands k c t h st)

  pub done_stands : (k : ℕ) (y : Command) (c : Config) → ConfigFits K c → ConfigCounts c → ConfigStands b x c → ConfigStands b x (done K k y c)
  unfolding done
  done_stands k (Input event v) c t h st = input_stands k event v c t h st
  done_stands k (Advance us) c t h st = advance_stands k (us + 1) us c t h st
  done_stands k (Idle j) c t h st = idle_turns_stand k j c t h st

  all_stand : (k : ℕ) (ys : List Command) (c : Config) → ConfigFits K c → ConfigCounts c → ConfigStands b x c → ConfigStands b x (all_done K k ys c)
  unfolding all_done
  all_stand k [] c t h st = st
  all_stand k (y ∷ ys) c t h st = all_stand k ys (done K k y c) (done_fits K proper k y c t) (done_counts K proper k y c t h) (done_stands k y c t h st)

  pub run_stands : (k : ℕ) (ys : List Command) → ConfigStands b x (run K k ys)
  unfolding run loops_stand
  run_stands k ys =
      all_stand k ys (steps K k (booted K)) (steps_fit K proper k (booted K) (booted_fits K proper)) (steps_counts K proper k (booted K) (booted_fits K proper) (booted_counts K proper))
      (steps_stand K proper b x clean k (booted K) (booted_fits K proper) (booted_counts K proper) tt)
