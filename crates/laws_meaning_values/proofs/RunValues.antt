-- Programs without code: reactions, commands and runs leave a value to each slot that needs one.
use Rattle.std.proofs.Common.{◌≡◌, refl, sym, ap, ◌∙◌, subst, ℕ, zero, suc, ◌+◌, ℤ, pos, Bool, true, false, not, if◌then◌else◌, ◌==◌, ◌||◌, ◌⊎◌, inl, inr, List, [], ◌∷◌, Option, Some, None, arith}
use Rattle.std.proofs.lemmas.Bool.{and_parts, or_cases, false≢true}
use Rattle.ceu_tree.specs.declared.kernel.Kernel.{Kernel}
use Rattle.ceu_tree.specs.declared.kernel.KBlock.{KBlock, out-KBlock}
use Rattle.ceu_tree.specs.declared.kernel.KStmt.{out-KStmt}
use Rattle.ceu_tree.specs.declared.kernel.KStmt.TheOpen.{KStmt-F}
use Rattle.ceu_tree.specs.Residual.{Program, Act, Finish, Again, Residual, Run, Branches, no_branch, branch}
use Rattle.ceu_tree.specs.Legal.{before}
use Rattle.laws_meaning_values.specs.Ground.{has, Ground, On}
use Rattle.laws_meaning_values.proofs.Counts.{Inner, inner_then}
use Rattle.laws_meaning_values.proofs.Grounds.{inner_ground}
use Rattle.laws_meaning_values.proofs.NeedsAt.{no_code, LowAt, frame_ground}
use Rattle.ceu_base.specs.declared.kinds.Pos.{Pos}
use Rattle.ceu_base.specs.declared.kinds.Fault.{Fault}
use Rattle.ceu_tree.specs.Residual.{WaitInput, WaitTime, InAsync}
use Rattle.ceu_tree.specs.World.{World}
use Rattle.ceu_tree.specs.Step.{stepped}
use Rattle.ceu_tree.specs.Proper.{Scope, is_proper}
use Rattle.laws_meaning_basics.proofs.UpFits.{Sound, frame_sound, layer_of}
use Rattle.laws_meaning_basics.proofs.StepFits.{Closed, around_sound}
use Rattle.laws_meaning_values.specs.Ready.{act_has}
use Rattle.laws_meaning_values.proofs.Stores.{or_left, or_right}
use Rattle.laws_meaning_values.proofs.Positions.{Beside}
use Rattle.laws_meaning_values.proofs.UpValues.{is_at_head, outcome_needs, fill_needs}
use Rattle.laws_meaning_values.proofs.Grounds.{program_ground}
use Rattle.laws_meaning_values.proofs.Readies.{ready_program}
use Rattle.laws_meaning_values.proofs.StepValues.{plug_needs, leaf_needs}
use Rattle.std.proofs.Common.{◌-◌, nat_le, min}
use Rattle.ceu_tree.specs.declared.command.Command.{Command}
use Rattle.ceu_tree.specs.declared.command.Command.TheVariants.{Input, Advance, Idle}
use Rattle.ceu_tree.specs.Around.{Outcome, Goes, Rests, Raises, Fails, Ends}
use Rattle.ceu_tree.specs.Focus.{Frame, Focus, Here, In, join, fill, plug, leaf, body_of, choose}
use Rattle.ceu_tree.specs.Wake.{each_leaf, leaves, runs_at, by_input, later, by_time, least_time, Unserved, unserved, new_round}
use Rattle.ceu_tree.specs.Run.{Config, Turning, Between, Waiting, Ended, Faulted, config_of, unless_failed, level_closed, chosen_at, next, steps, booted, reacts, input, advance, is_again, Served, Unfinished, Turned, Done as Finished, Failed, serve, serve_first, after_serving, served, idle_turn, idle_turns, done, all_done, run}
use Rattle.laws_meaning_basics.proofs.FocusBalance.{FoundIn, choose_found}
use Rattle.laws_meaning_basics.specs.Shape.{Part, ABlock, AStatement, async_scope, program_part, pauses, Fits, to_finish, FrameFits, around_statement, around_end, around_instance, around_part, around_turn, around_call, around_branch, Around, nothing_around, one_around, TurnFits, Comes, ConfigFits}
use Rattle.laws_meaning_basics.proofs.Leaves.{leaves_fit, by_input_fits, by_time_fits, later_fits, round_fits}
use Rattle.laws_meaning_basics.proofs.Choice.{ChoiceFits, choice_fits}
use Rattle.laws_meaning_basics.proofs.StepFits.{stepped_fits}
use Rattle.laws_meaning_basics.proofs.Fits.{around_raised, plug_fits}
use Rattle.laws_meaning_basics.proofs.RunFits.{root_sound, root_closed, turn_of_chosen, async_leaf, next_fits, steps_fit, done_fits, run_fits, booted_fits, idle_turn_fits}
use Rattle.laws_meaning_values.specs.Needed.{block_needs, turn_needs, needs, each_needs, at_first_head, frame_needs, focus_needs, Valued}
use Rattle.laws_meaning_values.proofs.Positions.{low_inner, beside_inner}
use Rattle.laws_meaning_values.proofs.StepFine.{WholeFine, stepped_fine, turn_reads, root_ground, plain_body_of}

module _ (K : Kernel) (proper : is_proper K ≡ true) (plain : K.codes ≡ []) where
  root_low : LowAt (program_part K) (root_ground K proper plain)
  root_low = record { seen = λ x c. absurd (false≢true c); main = refl }

  root_on : On (program_part K) (root_ground K proper plain)
  root_on = program_ground K proper

  -- ---- what a turn needs, its tree needs

  each_inside : (front back : Branches) (q : Residual) (y : ℕ) → ((each_needs front y || each_needs back y) ≡ true) ⊎ (needs q y ≡ true) → each_needs (join front (branch q back)) y ≡ true
  unfolding each_needs
  each_inside no_branch back q y (inl h) = or_right (needs q y) (each_needs back y) h
  each_inside no_branch back q y (inr h) = or_left (needs q y) (each_needs back y) h
  each_inside (branch r more) back q y (inr h) = or_right (needs r y) (each_needs (join more (branch q back)) y) (each_inside more back q y (inr h))
  each_inside (branch r more) back q y (inl h) = go (or_cases (needs r y || each_needs more y) (each_needs back y) h) (λ z. each_inside more back q y (inl z))
    where
      first : (needs r y ≡ true) ⊎ (each_needs more y ≡ true) → ((each_needs more y || each_needs back y) ≡ true → each_needs (join more (branch q back)) y ≡ true) → (needs r y || each_needs (join more (branch q back)) y) ≡ true
      first (inl u) ih = or_left (needs r y) (each_needs (join more (branch q back)) y) u
      first (inr u) ih = or_right (needs r y) (each_needs (join more (branch q back)) y) (ih (or_left (each_needs more y) (each_needs back y) u))

      go : ((needs r y || each_needs more y) ≡ true) ⊎ (each_needs back y ≡ true) → ((each_needs more y || each_needs back y) ≡ true → each_needs (join more (branch q back)) y ≡ true) → (needs r y || each_needs (join more (branch q back)) y) ≡ true
      go (inl u) ih = first (or_cases (needs r y) (each_needs more y) u) ih
      go (inr u) ih = or_right (needs r y) (each_needs (join more (branch q back)) y) (ih (or_right (each_needs more y) (each_needs back y) u))

  inside_fill : {t : ℕ} {fr : Frame} {d e : Part} → FrameFits K t fr d e → (b : Bool) (q : Residual) (y : ℕ) → (frame_needs fr b y ≡ true) ⊎ (needs q y ≡ true) → needs (fill fr q) y ≡ true
  unfolding needs
  inside_fill (around_statement {b = c} {rest = rest} done e f all) b q y (inl h) = or_left (block_needs c (before (out-KBlock c).list rest) y) (needs q y) h
  inside_fill (around_statement {b = c} {rest = rest} done e f all) b q y (inr h) = or_right (block_needs c (before (out-KBlock c).list rest) y) (needs q y) h
  inside_fill (around_end {b = c} f all) b q y (inl h) = or_left (block_needs c (before (out-KBlock c).list []) y) (needs q y) h
  inside_fill (around_end {b = c} f all) b q y (inr h) = or_right (block_needs c (before (out-KBlock c).list []) y) (needs q y) h
  inside_fill (around_instance {seat = seat} done k e f z front back p c) b q y h = absurd (no_code K proper plain seat.code k c)
  inside_fill (around_part c o) b q y (inl h) = absurd (false≢true h)
  inside_fill (around_part c o) b q y (inr h) = h
  inside_fill (around_turn {s = s} k c e o) b q y (inl h) = or_left (turn_needs (out-KStmt s.stmt) y) (needs q y) (and_parts (not b) (turn_needs (out-KStmt s.stmt) y) h).1
  inside_fill (around_turn {s = s} k c e o) b q y (inr h) = or_right (turn_needs (out-KStmt s.stmt) y) (needs q y) h
  inside_fill (around_call m es g u k e z) b q y h = absurd (no_code K proper plain m k z)
  inside_fill (around_branch {before = front} {after = back} k slot bs c cs e p z) b q y h = each_inside front back q y h

  focus_inside : {t : ℕ} (f : Focus Act) (d e : Part) (q : Residual) (y : ℕ) → Around K t Act f d e → focus_needs f y ≡ true → needs (plug f q) y ≡ true
  unfolding focus_needs
  focus_inside (Here a) d e q y nothing_around h = absurd (false≢true h)
  focus_inside (In fr f) d e q y (one_around {e = c} a more) h = inside_fill a (at_first_head f) (plug f q) y (go (or_cases (frame_needs fr (at_first_head f) y) (focus_needs f y) h) (focus_inside f c e q y more))
    where
      go : (frame_needs fr (at_first_head f) y ≡ true) ⊎ (focus_needs f y ≡ true) → (focus_needs f y ≡ true → needs (plug f q) y ≡ true) → (frame_needs fr (at_first_head f) y ≡ true) ⊎ (needs (plug f q) y ≡ true)
      go (inl u) ih = inl u
      go (inr u) ih = inr (ih u)

  -- ---- a step

  config_valued : (n : ℕ) (x : Outcome) (w : World) → ((y : ℕ) → outcome_needs x y ≡ true → has Program y w ≡ true) → Valued (config_of n x w)
  unfolding needs
  config_valued n (Goes g) w h = h
  config_valued n (Rests r) w h = h
  config_valued n (Raises r) w h = h
  config_valued n (Fails e r) w h = tt
  config_valued n (Ends v) w h = tt
  config_valued n x w h = λ y q. absurd (false≢true q)

  unless_valued : (w : World) (c : Config) → Valued c → Valued (unless_failed w c)
  unless_valued w c h = go w.fault
    where
      go : (o : Option (Fault × Pos)) → Valued (elim o [ Some e ↦ Faulted e w | None ↦ c ])
      go None = h
      go (Some e) = tt

  closed_valued : (n : ℕ) (r : Residual) (w : World) → ((y : ℕ) → needs r y ≡ true → has Program y w ≡ true) → Valued (level_closed n r w)
  closed_valued zero r w h = h
  closed_valued (suc n) r w h = h

  chosen_valued : (n : ℕ) (r : Residual) (w : World) → Fits K (suc n) (program_part K) r → ((y : ℕ) → needs r y ≡ true → has Program y w ≡ true) → Valued (chosen_at n (choose Act (runs_at n) r) r w)
  chosen_valued n r w fits h = go (choose Act (runs_at n) r) (choice_fits K (suc n) Act (runs_at n) fits) (choose_found Act (runs_at n) r)
    where
      go : (o : Option (Focus Act)) → ChoiceFits K (suc n) Act (runs_at n) (program_part K) o → FoundIn Act (runs_at n) r o → Valued (chosen_at n o r w)
      go None c x = closed_valued n r w h
      go (Some f) c x = λ y q. h y (subst (λ z. needs z y ≡ true) x.plugs (focus_inside f (program_part K) c.part x.was y c.around q))

  pub next_valued : (c : Config) → ConfigFits K c → Valued c → Valued (next K c)
  unfolding next
  next_valued (Turning n f w) t h =
      let m = stepped K n Program f w in
      unless_valued m.world (config_of n m.outcome m.world)
      (config_valued n m.outcome m.world (stepped_fine K proper plain n (program_part K) (root_ground K proper plain) (root_closed K proper) root_on root_low (root_sound K proper) f w t h).needed)
  next_valued (Between n r w) t h = chosen_valued n r w t h
  next_valued (Waiting r w) t h = h
  next_valued (Ended v w) t h = h
  next_valued (Faulted e w) t h = h

  pub steps_valued : (k : ℕ) (c : Config) → ConfigFits K c → Valued c → Valued (steps K k c)
  unfolding steps
  steps_valued zero c t h = h
  steps_valued (suc k) (Turning n f w) t h = steps_valued k (next K (Turning n f w)) (next_fits K proper (Turning n f w) t) (next_valued (Turning n f w) t h)
  steps_valued (suc k) (Between n r w) t h = steps_valued k (next K (Between n r w)) (next_fits K proper (Between n r w) t) (next_valued (Between n r w) t h)
  steps_valued (suc k) (Waiting r w) t h = h
  steps_valued (suc k) (Ended v w) t h = h
  steps_valued (suc k) (Faulted e w) t h = h

  pub booted_valued : Valued (booted K)
  unfolding needs
  booted_valued = λ y h. absurd (false≢true h)

  -- ---- commands

  by_input_needs : (k : ℕ) (v : ℤ) (r : Residual) (y : ℕ) → needs (by_input k v r) y ≡ true → needs r y ≡ true
  unfolding needs
  by_input_needs k v (WaitInput m s) y h = go (m == k) h
    where
      go : (b : Bool) → needs (if b then Run 0 (Finish s v) else WaitInput m s) y ≡ true → false ≡ true
      go true e = e
      go false e = e
  by_input_needs k v r y h = h

  by_time_needs : (delay : ℕ) (r : Residual) (y : ℕ) → needs (by_time delay r) y ≡ true → needs r y ≡ true
  unfolding needs
  by_time_needs delay (WaitTime m s) y h = go (m == 0) h
    where
      go : (b : Bool) → needs (if b then Run 0 (Finish s (pos (min delay 2147483647))) else WaitTime m s) y ≡ true → false ≡ true
      go true e = e
      go false e = e
  by_time_needs delay r y h = h

  later_needs : (us : ℕ) (r : Residual) (y : ℕ) → needs (later us r) y ≡ true → needs r y ≡ true
  unfolding needs
  later_needs us (WaitTime m s) y h = h
  later_needs us r y h = h

  round_needs : (r : Residual) (y : ℕ) → needs (new_round r) y ≡ true → needs r y ≡ true
  unfolding needs
  round_needs (InAsync s served r) y h = h
  round_needs r y h = h

  changed : (g : Residual → Residual) → ((r : Residual) (y : ℕ) → needs (g r) y ≡ true → needs r y ≡ true) → (r : Residual) (w : World) → ((y : ℕ) → needs r y ≡ true → has Program y w ≡ true) → (y : ℕ) → needs (each_leaf g r) y ≡ true → has Program y w ≡ true
  changed g k r w h y q = h y (leaf_needs K proper plain g k r y q)

  input_valued : (k event : ℕ) (v : ℤ) (c : Config) → ConfigFits K c → Valued c → Valued (input K k event v c)
  input_valued k event v (Waiting r w) t h = steps_valued k (Between 0 (each_leaf (by_input event v) r) w) (leaves_fit K 0 1 (by_input event v) (by_input_fits K event v) t) (changed (by_input event v) (by_input_needs event v) r w h)
  input_valued k event v (Turning n f w) t h = h
  input_valued k event v (Between n r w) t h = h
  input_valued k event v (Ended x w) t h = h
  input_valued k event v (Faulted e w) t h = h

  advance_valued : (k j d : ℕ) (c : Config) → ConfigFits K c → Valued c → Valued (advance K k j d c)
  unfolding advance
  advance_valued k zero d c t h = h
  advance_valued k (suc j) d (Waiting r w) t h = go (least_time (leaves r)) (λ m. advance_valued k j (d - m) (timed m) (timed_fits m) (timed_valued m))
    where
      start : ℕ → Residual
      start m = each_leaf (by_time (d - m)) (each_leaf (later m) r)

      timed : ℕ → Config
      timed m = reacts K k (each_leaf (by_time (d - m)) (each_leaf (later m) r)) w

      begin_fits : (m : ℕ) → Fits K 1 (program_part K) (each_leaf (by_time (d - m)) (each_leaf (later m) r))
      begin_fits m = leaves_fit K 0 1 (by_time (d - m)) (by_time_fits K (d - m)) (leaves_fit K 0 0 (later m) (later_fits K m) t)

      timed_fits : (m : ℕ) → ConfigFits K (timed m)
      timed_fits m = steps_fit K proper k (Between 0 (each_leaf (by_time (d - m)) (each_leaf (later m) r)) w) (begin_fits m)

      timed_valued : (m : ℕ) → Valued (timed m)
      timed_valued m = steps_valued k (Between 0 (each_leaf (by_time (d - m)) (each_leaf (later m) r)) w) (begin_fits m) (changed (by_time (d - m)) (by_time_needs (d - m)) (each_leaf (later m) r) w (changed (later m) (later_needs m) r w h))

      go : (o : Option ℕ) → ((m : ℕ) → Valued (advance K k j (d - m) (timed m))) → Valued (elim o [
        | None ↦ Waiting r w
        | Some m ↦ elim (nat_le m d) [
          | true ↦ advance K k j (d - m) (timed m)
          | false ↦ Waiting (each_leaf (later d) r) w
        ]
      ])
      go None ih = h
      go (Some m) ih = inner (nat_le m d)
        where
          inner : (b : Bool) → Valued (elim b [ true ↦ advance K k j (d - m) (timed m) | false ↦ Waiting (each_leaf (later d) r) w ])
          inner true = ih m
          inner false = changed (later d) (later_needs d) r w h
  advance_valued k (suc j) d (Turning n f w) t h = h
  advance_valued k (suc j) d (Between n r w) t h = h
  advance_valued k (suc j) d (Ended x w) t h = h
  advance_valued k (suc j) d (Faulted e w) t h = h

  -- ---- asyncs

  -- the ground of the leaf: what the tree needs besides lies beside it
  record HoleGround (A : Type 0) (f : Focus A) (e : Part) (g : Ground) : Type 0 where
    pub ground : Ground
    pub on : On e ground
    pub low : LowAt e ground
    pub inner : Inner ground g
    pub split : (y : ℕ) (p q : Residual) → needs (plug f q) y ≡ true → ((needs (plug f p) y ≡ true) × Beside ground y) ⊎ (needs q y ≡ true)

  frame_split : {t : ℕ} (fr : Frame) (d c : Part) → FrameFits K t fr d c → (p q : Residual) (h : Ground) (Z : Type 0) (y : ℕ) → (frame_needs fr false y ≡ true → Beside h y) → needs (fill fr q) y ≡ true
      → (needs q y ≡ true → ((needs p y ≡ true) × Beside h y) ⊎ Z) → ((needs (fill fr p) y ≡ true) × Beside h y) ⊎ Z
  frame_split fr d c a p q h Z y apart e ih = go (fill_needs K proper plain a q y e)
    where
      inside : ((needs p y ≡ true) × Beside h y) ⊎ Z → ((needs (fill fr p) y ≡ true) × Beside h y) ⊎ Z
      inside (inl u) = inl (inside_fill a false p y (inr u.0), u.1)
      inside (inr z) = inr z

      go : (frame_needs fr false y ≡ true) ⊎ (needs q y ≡ true) → ((needs (fill fr p) y ≡ true) × Beside h y) ⊎ Z
      go (inl u) = inl (inside_fill a false p y (inl u), apart u)
      go (inr u) = inside (ih u)

  hole_ground : {A : Type 0} {t : ℕ} (f : Focus A) (d e : Part) (g : Ground) → Around K t A f d e → On d g → LowAt d g → Sound K proper d → HoleGround A f e g
  hole_ground (Here a) d e g nothing_around on low ok = record {
    ground = g;
    on = on;
    low = low;
    inner = record { low = omega arith; high = omega arith; first = omega arith; last = omega arith };
    split = λ y p q h. inr h;
  }
  hole_ground (In fr f) d e g (one_around {e = c} a more) on low ok =
      let i = frame_ground K proper plain a g on low ok in
      let r = hole_ground f c e i.ground more i.on i.low (frame_sound K proper a ok) in
      record {
        ground = r.ground;
        on = r.on;
        low = r.low;
        inner = inner_then r.ground i.ground g r.inner i.inner;
        split = λ y p q h. frame_split fr d c a (plug f p) (plug f q) r.ground (needs q y ≡ true) y (λ u. beside_inner r.ground i.ground y r.inner (i.apart y false u)) h (r.split y p q);
      }

  abbrev ServedFine : Ground → World → Served → Type 0
  ServedFine g w (Turned r u) = ((y : ℕ) → needs r y ≡ true → has Program y u ≡ true) × ((y : ℕ) → Beside g y → has Program y w ≡ true → has Program y u ≡ true)
  ServedFine g w (Finished u) = (y : ℕ) → Beside g y → has Program y w ≡ true → has Program y u ≡ true
  ServedFine g w x = Unit {0}

  served_then : (g : Ground) (w u : World) (x : Served) → ((y : ℕ) → Beside g y → has Program y w ≡ true → has Program y u ≡ true) → ServedFine g u x → ServedFine g w x
  served_then g w u (Turned r v) a b = (b.0, λ y p h. b.1 y p (a y p h))
  served_then g w u (Finished v) a b = λ y p h. b y p (a y p h)
  served_then g w u Unfinished a b = tt
  served_then g w u (Failed e r v) a b = tt

  again_not_head : (a : Act) → is_again a ≡ true → is_at_head a ≡ false
  again_not_head Again h = refl
  again_not_head a h = absurd (false≢true h)

  module _ (d : Part) (g : Ground) (closed : Closed K proper d) (on : On d g) (low : LowAt d g) (ok : Sound K proper d) where
    again_needs : (f : Focus Act) (u : World) → TurnFits K 1 d f → is_again (leaf f) ≡ true → ((y : ℕ) → focus_needs f y ≡ true → has Program y u ≡ true) → (y : ℕ) → needs (plug f (Run 0 Again)) y ≡ true → has Program y u ≡ true
    unfolding needs
    again_needs f u t e own y h = go (plug_needs K proper plain f d t.part (Run 0 Again) y t.around (again_not_head (leaf f) e) h)
      where
        go : (focus_needs f y ≡ true) ⊎ (false ≡ true) → has Program y u ≡ true
        go (inl z) = own y z
        go (inr z) = absurd (false≢true z)

    serve_fine : (k : ℕ) (f : Focus Act) (w : World) → TurnFits K 1 d f → ((y : ℕ) → focus_needs f y ≡ true → has Program y w ≡ true) → ServedFine g w (serve K k Program f w)
    unfolding serve
    serve_fine zero f w t own = tt
    serve_fine (suc k) f w t own = go (stepped K 0 Program f w).outcome (stepped_fits K proper 0 Program f w d closed ok t) fine.needed (λ q x h. serve_fine k q u x h)
      where
        u : World
        u = (stepped K 0 Program f w).world

        fine : WholeFine K proper plain 0 d g closed on low ok w (stepped K 0 Program f w)
        fine = stepped_fine K proper plain 0 d g closed on low ok f w t own

        go : (x : Outcome) → Comes K 0 d x → ((y : ℕ) → outcome_needs x y ≡ true → has Program y u ≡ true) → ((q : Focus Act) → TurnFits K 1 d q → ((y : ℕ) → focus_needs q y ≡ true → has Program y u ≡ true) → ServedFine g u (serve K k Program q u)) → ServedFine g w (elim x [
          | Goes q ↦ elim (is_again (leaf q)) [ true ↦ Turned (plug q (Run 0 Again)) u | false ↦ serve K k Program q u ]
          | Fails e r ↦ Failed e r u
          | Rests r ↦ Turned r u
          | Raises r ↦ Turned r u
          | _ ↦ Finished u
        ])
        go (Goes q) x need ih = inner (is_again (leaf q)) refl
          where
            inner : (b : Bool) → is_again (leaf q) ≡ b → ServedFine g w (elim b [ true ↦ Turned (plug q (Run 0 Again)) u | false ↦ serve K k Program q u ])
            inner true e = (again_needs q u x e need, fine.spares)
            inner false e = served_then g w u (serve K k Program q u) fine.spares (ih q x need)
        go (Fails e r) x need ih = tt
        go (Rests r) x need ih = (need, fine.spares)
        go (Raises r) x need ih = (need, fine.spares)
        go y x need ih = fine.spares

    first_fine : (k : ℕ) (r : Residual) (w : World) (o : Option (Focus Act)) → ChoiceFits K 1 Act (runs_at 0) d o → FoundIn Act (runs_at 0) r o → ((y : ℕ) → needs r y ≡ true → has Program y w ≡ true) → ServedFine g w (serve_first K k Program o r w)
    first_fine k r w None c x h = (h, λ y p q. q)
    first_fine k r w (Some f) c x h = serve_fine k f w (turn_of_chosen K proper 0 d f c) (λ y q. h y (subst (λ z. needs z y ≡ true) x.plugs (focus_inside f d c.part x.was y c.around q)))

  -- where an async stands, and what it has left
  async_was : (r : Residual) (x : Unserved) → unserved r ≡ Some x → r ≡ InAsync x.stmt false x.inner
  async_was (InAsync s false r) x e = ap {A = Unserved} (λ y. InAsync y.stmt false y.inner) (ap (λ o. elim o [ None ↦ record { stmt = s; inner = r } | Some y ↦ y ]) e)
  async_was r x e = absurd (cc)

  after_fine : (k : ℕ) (g : Focus Unserved) (x : Served) (r : Residual) (w : World) (sc : Scope) (b : KBlock) (i : HoleGround Unserved g (AStatement sc (leaf g).stmt) (root_ground K proper plain)) (h : Ground) → Inner h i.ground
      → Around K 0 Unserved g (program_part K) (AStatement sc (leaf g).stmt) → out-KStmt (leaf g).stmt.stmt ≡ KStmt-F.Async b
      → plug g (InAsync (leaf g).stmt false (leaf g).inner) ≡ r → ((y : ℕ) → needs r y ≡ true → has Program y w ≡ true) → ServedFine h w x → Valued (after_serving K k g x r w)
  unfolding needs
  after_fine k g Unfinished r w sc b i h z a e q own s = own
  after_fine k g (Failed y p u) r w sc b i h z a e q own s = tt
  after_fine k g (Turned p u) r w sc b i h z a e q own s = λ y v. go y (i.split y (InAsync (leaf g).stmt false (leaf g).inner) (InAsync (leaf g).stmt true p) v)
    where
      go : (y : ℕ) → ((needs (plug g (InAsync (leaf g).stmt false (leaf g).inner)) y ≡ true) × Beside i.ground y) ⊎ (needs p y ≡ true) → has Program y u ≡ true
      go y (inl v) = s.1 y (beside_inner h i.ground y z v.1) (own y (subst (λ t. needs t y ≡ true) q v.0))
      go y (inr v) = s.0 y v
  after_fine k g (Finished u) r w sc b i h z a e q own s =
      steps_valued k (Between 0 (plug g (Run 0 (Finish (leaf g).stmt (pos 0)))) u) (plug_fits K (around_raised K {t = 0} {u = 1} (omega arith) a) (to_finish (omega arith) (ap pauses e)))
      (λ y v. go y (i.split y (InAsync (leaf g).stmt false (leaf g).inner) (Run 0 (Finish (leaf g).stmt (pos 0))) v))
    where
      go : (y : ℕ) → ((needs (plug g (InAsync (leaf g).stmt false (leaf g).inner)) y ≡ true) × Beside i.ground y) ⊎ (false ≡ true) → has Program y u ≡ true
      go y (inl v) = s y (beside_inner h i.ground y z v.1) (own y (subst (λ t. needs t y ≡ true) q v.0))
      go y (inr v) = absurd (false≢true v)

  inner_needs : {A : Type 0} {t : ℕ} (f : Focus A) (d e : Part) (q : Residual) (y : ℕ) → Around K t A f d e → needs q y ≡ true → needs (plug f q) y ≡ true
  inner_needs (Here a) d e q y nothing_around h = h
  inner_needs (In fr f) d e q y (one_around {e = c} a more) h = inside_fill a false (plug f q) y (inr (inner_needs f c e q y more h))

  served_valued : (k : ℕ) (o : Option (Focus Unserved)) (r : Residual) (w : World) → ChoiceFits K 0 Unserved unserved (program_part K) o → FoundIn Unserved unserved r o → ((y : ℕ) → needs r y ≡ true → has Program y w ≡ true) → Valued (served K k o r w)
  unfolding needs
  served_valued k None r w c x h = h
  served_valued k (Some g) r w c x h =
      let l = async_leaf K proper c.part c.was (leaf g) c.fits c.picked in
      let a : Around K 0 Unserved g (program_part K) (AStatement l.scope (leaf g).stmt) = subst (Around K 0 Unserved g (program_part K)) l.is c.around in
      let i = hole_ground g (program_part K) (AStatement l.scope (leaf g).stmt) (root_ground K proper plain) a root_on root_low (root_sound K proper) in
      let j = inner_ground (leaf g).stmt (KStmt-F.Async l.block) i.ground l.layer i.on in
      let low = low_inner l.scope i.ground j.ground j.inner i.low in
      let sound = (layer_of K proper l.scope (leaf g).stmt (KStmt-F.Async l.block) l.layer (around_sound K proper a (root_sound K proper))).1 in
      let q = ap (plug g) (sym (async_was x.was (leaf g) x.picked)) ∙ x.plugs in
      let inside : (y : ℕ) → needs (leaf g).inner y ≡ true → has Program y w ≡ true
      = λ y v. h y (subst (λ t. needs t y ≡ true) q (inner_needs g (program_part K) (AStatement l.scope (leaf g).stmt) (InAsync (leaf g).stmt false (leaf g).inner) y a v)) in
      let d = ABlock false (async_scope K l.scope) l.block in
      let s = first_fine d j.ground (λ node u v. false≢true u) j.on (record { seen = low.seen; main = low.main }) sound k (leaf g).inner w (choose Act (runs_at 0) (leaf g).inner) (choice_fits K 1 Act (runs_at 0) l.fits) (choose_found Act (runs_at 0) (leaf g).inner) inside in
      after_fine k g (serve_first K k (body_of g Program) (choose Act (runs_at 0) (leaf g).inner) (leaf g).inner w) r w l.scope l.block i j.ground j.inner a l.layer q h
      (subst (λ b. ServedFine j.ground w (serve_first K k b (choose Act (runs_at 0) (leaf g).inner) (leaf g).inner w)) (sym (plain_body_of K proper plain g (program_part K) (AStatement l.scope (leaf g).stmt) a)) s)

  idle_turn_valued : (k : ℕ) (c : Config) → ConfigFits K c → Valued c → Valued (idle_turn K k c)
  idle_turn_valued k (Waiting r w) t h = go (choose Unserved unserved r) (choice_fits K 0 Unserved unserved t) (choose_found Unserved unserved r)
    where
      again : Residual
      again = each_leaf new_round r

      go : (o : Option (Focus Unserved)) → ChoiceFits K 0 Unserved unserved (program_part K) o → FoundIn Unserved unserved r o → Valued (elim o [ Some g ↦ served K k (Some g) r w | None ↦ served K k (choose Unserved unserved again) again w ])
      go (Some g) c x = served_valued k (Some g) r w c x h
      go None c x = served_valued k (choose Unserved unserved again) again w (choice_fits K 0 Unserved unserved (leaves_fit K 0 0 new_round (round_fits K) t)) (choose_found Unserved unserved again) (changed new_round round_needs r w h)
  idle_turn_valued k (Turning n f w) t h = h
  idle_turn_valued k (Between n r w) t h = h
  idle_turn_valued k (Ended x w) t h = h
  idle_turn_valued k (Faulted e w) t h = h

  idle_turns_valued : (k j : ℕ) (c : Config) → ConfigFits K c → Valued c → Valued (idle_turns K k j c)
  idle_turns_valued k zero c t h = h
  idle_turns_valued k (suc j) c t h = idle_turns_valued k j (idle_turn K k c) (idle_turn_fits K proper k c t) (idle_turn_valued k c t h)

  pub done_valued : (k : ℕ) (x : Command) (c : Config) → ConfigFits K c → Valued c → Valued (done K k x c)
  unfolding done
  done_valued k (Input event v) c t h = input_valued k event v c t h
  done_valued k (Advance us) c t h = advance_valued k (us + 1) us c t h
  done_valued k (Idle j) c t h = idle_turns_valued k j c t h

  all_valued : (k : ℕ) (xs : List Command) (c : Config) → ConfigFits K c → Valued c → Valued (all_done K k xs c)
  unfolding all_done
  all_valued k [] c t h = h
  all_valued k (x ∷ xs) c t h = all_valued k xs (done K k x c) (done_fits K proper k x c t) (done_valued k x c t h)

  pub run_valued : (k : ℕ) (xs : List Command) → Valued (run K k xs)
  unfolding run
  run_valued k xs = all_valued k xs (steps K k (booted K)) (steps_fit K proper k (booted K) (booted_fits K proper)) (steps_valued k (booted K) (booted_fits K proper) booted_valued)

  pub config_reads : (n : ℕ) (f : Focus Act) (w : World) → TurnFits K (suc n) (program_part K) f → Valued (Turning n f w) → act_has (body_of f Program) w (leaf f) ≡ true
  config_reads n f w t h = turn_reads K proper plain n f w (program_part K) (root_sound K proper) (ready_program K Program w) t h

  pub boot_reads : (k n : ℕ) (f : Focus Act) (w : World) → steps K k (booted K) ≡ Turning n f w → act_has (body_of f Program) w (leaf f) ≡ true
  boot_reads k n f w e =
      config_reads n f w (subst (ConfigFits K) e (steps_fit K proper k (booted K) (booted_fits K proper))) (subst Valued e (steps_valued k (booted K) (booted_fits K proper) booted_valued))

  pub command_reads : (m k n : ℕ) (xs : List Command) (x : Command) (f : Focus Act) (w : World) → done K k x (run K m xs) ≡ Turning n f w → act_has (body_of f Program) w (leaf f) ≡ true
  command_reads m k n xs x f w e =
      let t = run_fits K proper m xs in
      config_reads n f w (subst (ConfigFits K) e (done_fits K proper k x (run K m xs) t)) (subst Valued e (done_valued k x (run K m xs) t (run_valued m xs)))
