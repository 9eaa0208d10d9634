-- Commands and runs of a proper kernel keep each value in an open slot of its kind.
use Rattle.std.proofs.Common.{◌≡◌, refl, ap, subst, ℕ, zero, suc, ◌+◌, ◌-◌, ℤ, pos, nat_le, Bool, true, false, if◌then◌else◌, ◌==◌, inl, List, [], ◌∷◌, Option, Some, None, arith}
use Rattle.std.proofs.lemmas.Bool.{false≢true}
use Rattle.ceu_tree.specs.declared.command.Command.{Command}
use Rattle.ceu_tree.specs.declared.command.Command.TheVariants.{Input, Advance, Idle}
use Rattle.ceu_tree.specs.declared.kernel.Kernel.{Kernel}
use Rattle.ceu_tree.specs.declared.kernel.KNode.{KNode}
use Rattle.ceu_tree.specs.declared.kernel.KBlock.{KBlock}
use Rattle.ceu_tree.specs.declared.kernel.KStmt.{out-KStmt}
use Rattle.ceu_tree.specs.declared.kernel.KStmt.TheOpen.{KStmt-F}
use Rattle.ceu_tree.specs.Residual.{Body, Program, Act, Finish, Again, Residual, Run, WaitInput, WaitTime, InAsync}
use Rattle.ceu_tree.specs.Focus.{Focus, plug, leaf, body_of, choose}
use Rattle.ceu_tree.specs.World.{Held, World}
use Rattle.ceu_tree.specs.Wake.{each_leaf, leaves, runs_at, by_input, later, by_time, least_time, Unserved, unserved, new_round}
use Rattle.ceu_tree.specs.Leaf.{acted}
use Rattle.ceu_tree.specs.Around.{Outcome, Goes, Rests, Raises, Fails, Past, Registers, AtBlockEnd, AtLoopHead, Ends, Leaves}
use Rattle.ceu_tree.specs.Step.{stepped}
use Rattle.ceu_tree.specs.Proper.{Scope, is_proper}
use Rattle.ceu_tree.specs.Run.{Config, Turning, Between, Waiting, Ended, Faulted, steps, booted, reacts, input, advance, is_again, Served, Unfinished, Turned, Done, Failed, serve, serve_first, after_serving, served, idle_turn, idle_turns, done, all_done, run}
use Rattle.laws_meaning_basics.proofs.FocusBalance.{FoundIn, choose_found}
use Rattle.laws_meaning_basics.specs.Shape.{Part, ABlock, AStatement, program_part, async_scope, pauses, Fits, to_finish, Around, TurnFits, Comes, ConfigFits}
use Rattle.laws_meaning_basics.proofs.Fits.{around_raised, plug_fits}
use Rattle.laws_meaning_basics.proofs.Leaves.{leaves_fit, by_input_fits, by_time_fits, later_fits, round_fits}
use Rattle.laws_meaning_basics.proofs.Choice.{ChoiceFits, choice_fits}
use Rattle.laws_meaning_basics.proofs.UpFits.{layer_of}
use Rattle.laws_meaning_basics.proofs.StepFits.{around_sound, stepped_fits}
use Rattle.laws_meaning_basics.proofs.RunFits.{root_sound, turn_of_chosen, steps_fit, booted_fits, async_leaf, idle_turn_fits, done_fits}
use Rattle.laws_meaning_instances.proofs.Living.{lives}
use Rattle.laws_meaning_instances.proofs.Trees.{live_focus, plug_lives}
use Rattle.laws_meaning_instances.proofs.Rooms.{acted_room}
use Rattle.laws_meaning_instances.proofs.Steps.{SpawnFine}
use Rattle.laws_meaning_instances.proofs.Reactions.{ConfigCounts, counts_same, found_stands, steps_counts, booted_counts}
use Rattle.laws_meaning_instances.proofs.Commands.{by_input_calm, by_time_calm, later_calm, round_calm, TreeCounts, leaves_counts, AsyncPart, apart_fine, first_counts, unserved_lives, unserved_stands, after_counts, idle_turn_counts, done_counts}
use Rattle.laws_meaning_slots.proofs.Slots.{room, focus_room, Calm, leaves_room, plug_room}
use Rattle.laws_meaning_slots.proofs.Values.{lie_more}
use Rattle.laws_meaning_slots.proofs.Covers.{Covers, covers_more, around_covers}
use Rattle.laws_meaning_slots.proofs.Aborts.{lie_rest, LieIn}
use Rattle.laws_meaning_slots.proofs.Steps.{left_whole}
use Rattle.laws_meaning_slots.proofs.Reactions.{TreeLies, ConfigLies, focus_more, chosen_room, root_covers, turn_lies, steps_lie}

-- ---- changes of leaves

either_room : (K : Kernel) (g : ℕ) (h : Held) (b : Bool) (x y : Residual) (body : Body) → room K.codes g h x body ≡ 0 → room K.codes g h y body ≡ 0
    → room K.codes g h (if b then x else y) body ≡ 0
either_room K g h true x y body p q = p
either_room K g h false x y body p q = q

input_same : (K : Kernel) (g : ℕ) (h : Held) (event : ℕ) (v : ℤ) → Calm K.codes g h (by_input event v)
unfolding room
input_same K g h event v (WaitInput k s) body = either_room K g h (k == event) _ _ body refl refl
input_same K g h event v r body = refl

time_same : (K : Kernel) (g : ℕ) (h : Held) (d : ℕ) → Calm K.codes g h (by_time d)
unfolding room
time_same K g h d (WaitTime left s) body = either_room K g h (left == 0) _ _ body refl refl
time_same K g h d r body = refl

later_same : (K : Kernel) (g : ℕ) (h : Held) (d : ℕ) → Calm K.codes g h (later d)
unfolding room
later_same K g h d (WaitTime left s) body = refl
later_same K g h d r body = refl

round_same : (K : Kernel) (g : ℕ) (h : Held) → Calm K.codes g h new_round
unfolding room
round_same K g h (InAsync s b r) body = refl
round_same K g h r body = refl

leaves_lie : (K : Kernel) (c : Residual → Residual) (r : Residual) (w : World) → ((h : Held) → Calm K.codes w.given h c) → TreeLies K r w
    → TreeLies K (each_leaf c r) w
leaves_lie K c r w calm x = lie_more (λ h. room K.codes w.given h r Program) (λ h. room K.codes w.given h (each_leaf c r) Program) (λ h l. (let a = leaves_room K.codes w.given h c (calm h) r Program in omega (arith, a, l))) w.values x

module _ (K : Kernel) (proper : is_proper K ≡ true) where
  reacts_lie : (k : ℕ) (r : Residual) (w : World) → Fits K 1 (program_part K) r → TreeCounts r w → TreeLies K r w → ConfigLies K (reacts K k r w)
  reacts_lie k r w t z h = steps_lie K proper k (Between 0 r w) t z h

  input_lies : (k event : ℕ) (v : ℤ) (c : Config) → ConfigFits K c → ConfigCounts c → ConfigLies K c → ConfigLies K (input K k event v c)
  input_lies k event v (Waiting r w) t z h =
      reacts_lie k (each_leaf (by_input event v) r) w (leaves_fit K 0 1 (by_input event v) (by_input_fits K event v) t) (leaves_counts (by_input event v) (by_input_calm event v) r w z) (leaves_lie K (by_input event v) r w (λ k. input_same K w.given k event v) h)
  input_lies k event v (Turning n f w) t z h = h
  input_lies k event v (Between n r w) t z h = h
  input_lies k event v (Ended x w) t z h = h
  input_lies k event v (Faulted e w) t z h = h

  advance_lies : (k j d : ℕ) (c : Config) → ConfigFits K c → ConfigCounts c → ConfigLies K c → ConfigLies K (advance K k j d c)
  unfolding advance
  advance_lies k zero d c t z h = h
  advance_lies k (suc j) d (Waiting r w) t z h = go (least_time (leaves r)) (λ m. advance_lies k j (d - m) (timed m) (timed_fits m) (timed_counts m) (timed_lies m))
    where
      later_on : ℕ → Residual
      later_on m = each_leaf (later m) r

      next_on : ℕ → Residual
      next_on m = each_leaf (by_time (d - m)) (later_on m)

      timed : ℕ → Config
      timed m = reacts K k (next_on m) w

      fits : (m : ℕ) → Fits K 1 (program_part K) (next_on m)
      fits m = leaves_fit K 0 1 (by_time (d - m)) (by_time_fits K (d - m)) (leaves_fit K 0 0 (later m) (later_fits K m) t)

      timed_fits : (m : ℕ) → ConfigFits K (timed m)
      timed_fits m = steps_fit K proper k (Between 0 (next_on m) w) (fits m)

      counts : (m : ℕ) → TreeCounts (next_on m) w
      counts m = leaves_counts (by_time (d - m)) (by_time_calm (d - m)) (later_on m) w (leaves_counts (later m) (later_calm m) r w z)

      timed_counts : (m : ℕ) → ConfigCounts (timed m)
      timed_counts m = steps_counts K proper k (Between 0 (next_on m) w) (fits m) (counts m)

      lies : (m : ℕ) → TreeLies K (next_on m) w
      lies m = leaves_lie K (by_time (d - m)) (later_on m) w (λ i. time_same K w.given i (d - m)) (leaves_lie K (later m) r w (λ i. later_same K w.given i m) h)

      timed_lies : (m : ℕ) → ConfigLies K (timed m)
      timed_lies m = reacts_lie k (next_on m) w (fits m) (counts m) (lies m)

      go : (o : Option ℕ) → ((m : ℕ) → ConfigLies K (advance K k j (d - m) (timed m))) → ConfigLies K (elim o [
        | None ↦ Waiting r w
        | Some m ↦ elim (nat_le m d) [
          | true ↦ advance K k j (d - m) (timed m)
          | false ↦ Waiting (each_leaf (later d) r) w
        ]
      ])
      go None ih = h
      go (Some m) ih = inner (nat_le m d)
        where
          inner : (b : Bool) → ConfigLies K (elim b [ true ↦ advance K k j (d - m) (timed m) | false ↦ Waiting (each_leaf (later d) r) w ])
          inner true = ih m
          inner false = leaves_lie K (later d) r w (λ i. later_same K w.given i d) h
  advance_lies k (suc j) d (Turning n f w) t z h = h
  advance_lies k (suc j) d (Between n r w) t z h = h
  advance_lies k (suc j) d (Ended x w) t z h = h
  advance_lies k (suc j) d (Faulted e w) t z h = h

  -- ---- asyncs

  module _ (o : Focus Unserved) (root : Body) where
    -- beside what is open around the async
    abbrev Beside : ℕ → Held → ℕ
    Beside g h = focus_room K.codes g h o Program

    abbrev ServedLies : Served → Type 0
    ServedLies (Turned r w) = LieIn (λ h. room K.codes w.given h r root + Beside w.given h) w
    ServedLies (Done w) = LieIn (λ h. Beside w.given h) w
    ServedLies x = Unit {0}

    serve_lies : (k : ℕ) (f : Focus Act) (w : World) (d : Part) → AsyncPart K proper d → ((g : ℕ) → Covers K g (Beside g) d root) → TurnFits K 1 d f
        → LieIn (λ h. focus_room K.codes w.given h f root + Beside w.given h) w → ServedLies (serve K k root f w)
    unfolding serve room
    serve_lies zero f w d a c t x = tt
    serve_lies (suc k) f w d a c t x =
        go (stepped K 0 root f w).outcome (stepped_fits K proper 0 root f w d a.closed a.sound t)
        (turn_lies K proper 0 root f Beside w (λ g j h l. focus_more K g j o Program h l) t a.sound (c u.given) fine x) (λ q y l. serve_lies k q u d a c y l)
      where
        u : World
        u = (stepped K 0 root f w).world

        fine : SpawnFine f (acted K 0 (body_of f root) (leaf f) w).does
        fine = apart_fine K proper (acted K 0 (body_of f root) (leaf f) w).does a t.around (acted_room K proper 0 (body_of f root) t.part (leaf f) w (around_sound K proper t.around a.sound) t.acts)

        closed : LieIn (λ h. 0 + Beside u.given h) u → LieIn (λ h. Beside u.given h) u
        closed l = lie_rest (Beside u.given) u l

        go : (x : Outcome) → Comes K 0 d x → LieIn (λ h. left_whole K proper u.given h root x + Beside u.given h) u
            → ((q : Focus Act) → TurnFits K 1 d q → LieIn (λ h. focus_room K.codes u.given h q root + Beside u.given h) u → ServedLies (serve K k root q u))
            → ServedLies (elim x [
              | Goes g ↦ elim (is_again (leaf g)) [ true ↦ Turned (plug g (Run 0 Again)) u | false ↦ serve K k root g u ]
              | Fails e r ↦ Failed e r u
              | Rests r ↦ Turned r u
              | Raises r ↦ Turned r u
              | _ ↦ Done u
            ])
        go (Goes q) y l ih = inner (is_again (leaf q))
          where
            inner : (b : Bool) → ServedLies (elim b [ true ↦ Turned (plug q (Run 0 Again)) u | false ↦ serve K k root q u ])
            inner true =
                lie_more (λ h. focus_room K.codes u.given h q root + Beside u.given h) (λ h. room K.codes u.given h (plug q (Run 0 Again)) root + Beside u.given h) (λ h n. (let e = plug_room K.codes u.given h q (Run 0 Again) root in omega (arith, e, n))) u.values l
            inner false = ih q y l
        go (Fails e r) y l ih = tt
        go (Rests r) y l ih = l
        go (Raises r) y l ih = l
        go (Ends v) y l ih = closed l
        go Past y l ih = closed l
        go (Registers s) y l ih = closed l
        go AtBlockEnd y l ih = closed l
        go AtLoopHead y l ih = closed l
        go (Leaves node e) y l ih = closed l

    first_lies : (k : ℕ) (p : Option (Focus Act)) (r : Residual) (w : World) (d : Part) → AsyncPart K proper d → ((g : ℕ) → Covers K g (Beside g) d root)
        → ChoiceFits K 1 Act (runs_at 0) d p → FoundIn Act (runs_at 0) r p
        → LieIn (λ h. room K.codes w.given h r root + Beside w.given h) w → ServedLies (serve_first K k root p r w)
    first_lies k None r w d a c t x l = l
    first_lies k (Some f) r w d a c t x l =
        serve_lies k f w d a c (turn_of_chosen K proper 0 d f t)
        (lie_more (λ h. room K.codes w.given h r root + Beside w.given h) (λ h. focus_room K.codes w.given h f root + Beside w.given h) (λ h n. (let e = chosen_room K w.given h 0 r f root x in omega (arith, e, n))) w.values l)

  unserved_room : (g : ℕ) (h : Held) (r : Residual) (x : Unserved) (body : Body) → unserved r ≡ Some x → room K.codes g h r body ≡ room K.codes g h x.inner body
  unfolding room
  unserved_room g h (InAsync s false r) x body e = inner e
    where
      inner : Some (record { stmt = s; inner = r }) ≡ Some x → room K.codes g h r body ≡ room K.codes g h x.inner body
      inner q = ap (λ o. elim o [ None ↦ room K.codes g h r body | Some y ↦ room K.codes g h y.inner body ]) q
  unserved_room g h r x body e = absurd (cc)

  -- what is seen in an async is open around it
  async_covers : {t : ℕ} (g : ℕ) (o : Focus Unserved) (sc : Scope) (s : KNode) (b : KBlock) → Around K t Unserved o (program_part K) (AStatement sc s)
      → Covers K g (λ h. focus_room K.codes g h o Program) (ABlock false (async_scope K sc) b) (body_of o Program)
  async_covers g o sc s b a =
      let c = around_covers K g a (λ h. 0) Program (root_covers K proper g) in
      covers_more K g (λ h. focus_room K.codes g h o Program + 0) (λ h. focus_room K.codes g h o Program) (ABlock false (async_scope K sc) b) (body_of o Program) (λ h n. omega (arith, n)) (c.0, inl c.1)

  after_lies : (k : ℕ) (o : Focus Unserved) (x : Served) (r : Residual) (w : World) (sc : Scope) (b : KBlock)
      → Around K 0 Unserved o (program_part K) (AStatement sc (leaf o).stmt) → out-KStmt (leaf o).stmt.stmt ≡ KStmt-F.Async b
      → ConfigCounts (after_serving K 0 o x r w) → TreeLies K r w → ServedLies o (body_of o Program) x → ConfigLies K (after_serving K k o x r w)
  unfolding room steps
  after_lies k o Unfinished r w sc b a e z h s = h
  after_lies k o (Turned q u) r w sc b a e z h s =
      lie_more (λ h. room K.codes u.given h q (body_of o Program) + focus_room K.codes u.given h o Program) (λ h. room K.codes u.given h (plug o (InAsync (leaf o).stmt true q)) Program)
      (λ h n. (let y = plug_room K.codes u.given h o (InAsync (leaf o).stmt true q) Program in omega (arith, y, n))) u.values s
  after_lies k o (Done u) r w sc b a e z h s =
      reacts_lie k (plug o (Run 0 (Finish (leaf o).stmt (pos 0)))) u (plug_fits K (around_raised K (omega arith) a) (to_finish (omega arith) (ap pauses e))) z
      (lie_more (λ h. focus_room K.codes u.given h o Program) (λ h. room K.codes u.given h (plug o (Run 0 (Finish (leaf o).stmt (pos 0)))) Program)
      (λ h n. (let y = plug_room K.codes u.given h o (Run 0 (Finish (leaf o).stmt (pos 0))) Program in omega (arith, y, n))) u.values s)
  after_lies k o (Failed y q u) r w sc b a e z h s = tt

  served_lies : (k : ℕ) (p : Option (Focus Unserved)) (r : Residual) (w : World) → ChoiceFits K 0 Unserved unserved (program_part K) p
      → FoundIn Unserved unserved r p → TreeCounts r w → TreeLies K r w → ConfigLies K (served K k p r w)
  served_lies k None r w t x z h = h
  served_lies k (Some o) r w t x z h =
      let l = async_leaf K proper t.part t.was (leaf o) t.fits t.picked in
      let a : Around K 0 Unserved o (program_part K) (AStatement l.scope (leaf o).stmt) = subst (Around K 0 Unserved o (program_part K)) l.is t.around in
      let p : AsyncPart K proper (ABlock false (async_scope K l.scope) l.block) = record {
        closed = λ node u v. false≢true u;
        sound = (layer_of K proper l.scope (leaf o).stmt (KStmt-F.Async l.block) l.layer (around_sound K proper a (root_sound K proper))).1;
        apart = λ u. false≢true u;
      } in
      let f = found_stands unserved r o x z.1 in
      let q = choose Act (runs_at 0) (leaf o).inner in
      let c = choice_fits K 1 Act (runs_at 0) l.fits in
      let d = choose_found Act (runs_at 0) (leaf o).inner in
      let counts = first_counts K proper (λ i. live_focus i o) k (body_of o Program) q (leaf o).inner w _ p c d
      (counts_same (λ i. lives i r) (λ i. lives i (leaf o).inner + live_focus i o) w w (record { living = refl; given = refl })
      (λ i. (let u = plug_lives i o x.was in let v = unserved_lives K proper i x.was (leaf o) x.picked in let y = ap (lives i) x.plugs in omega (arith, u, v, y))) z.0)
      (unserved_stands K proper x.was (leaf o) x.picked f.1) in
      after_lies k o _ r w l.scope l.block a l.layer (after_counts K proper 0 o _ r w l.scope l.block a l.layer f.0 z counts) h
      (first_lies o (body_of o Program) k q (leaf o).inner w _ p (λ g. async_covers g o l.scope (leaf o).stmt l.block a) c d
      (lie_more (λ i. room K.codes w.given i r Program) (λ i. room K.codes w.given i (leaf o).inner (body_of o Program) + focus_room K.codes w.given i o Program)
      (λ i n. (let u = plug_room K.codes w.given i o x.was Program in let v = unserved_room w.given i x.was (leaf o) (body_of o Program) x.picked in let y = ap (λ e. room K.codes w.given i e Program) x.plugs in omega (arith, n, u, v, y))) w.values h))

  idle_turn_lies : (k : ℕ) (c : Config) → ConfigFits K c → ConfigCounts c → ConfigLies K c → ConfigLies K (idle_turn K k c)
  idle_turn_lies k (Waiting r w) t z h = go (choose Unserved unserved r) (choice_fits K 0 Unserved unserved t) (choose_found Unserved unserved r)
    where
      new : Residual
      new = each_leaf new_round r

      go : (o : Option (Focus Unserved)) → ChoiceFits K 0 Unserved unserved (program_part K) o → FoundIn Unserved unserved r o
          → ConfigLies K (elim o [ Some g ↦ served K k (Some g) r w | None ↦ served K k (choose Unserved unserved new) new w ])
      go (Some g) c x = served_lies k (Some g) r w c x z h
      go None c x =
          served_lies k (choose Unserved unserved new) new w (choice_fits K 0 Unserved unserved (leaves_fit K 0 0 new_round (round_fits K) t)) (choose_found Unserved unserved new) (leaves_counts new_round round_calm r w z)
          (leaves_lie K new_round r w (λ i. round_same K w.given i) h)
  idle_turn_lies k (Turning n f w) t z h = h
  idle_turn_lies k (Between n r w) t z h = h
  idle_turn_lies k (Ended x w) t z h = h
  idle_turn_lies k (Faulted e w) t z h = h

  idle_turns_lie : (k j : ℕ) (c : Config) → ConfigFits K c → ConfigCounts c → ConfigLies K c → ConfigLies K (idle_turns K k j c)
  idle_turns_lie k zero c t z h = h
  idle_turns_lie k (suc j) c t z h = idle_turns_lie k j (idle_turn K k c) (idle_turn_fits K proper k c t) (idle_turn_counts K proper k c t z) (idle_turn_lies k c t z h)

  pub done_lies : (k : ℕ) (x : Command) (c : Config) → ConfigFits K c → ConfigCounts c → ConfigLies K c → ConfigLies K (done K k x c)
  unfolding done
  done_lies k (Input event v) c t z h = input_lies k event v c t z h
  done_lies k (Advance us) c t z h = advance_lies k (us + 1) us c t z h
  done_lies k (Idle j) c t z h = idle_turns_lie k j c t z h

  all_lie : (k : ℕ) (xs : List Command) (c : Config) → ConfigFits K c → ConfigCounts c → ConfigLies K c → ConfigLies K (all_done K k xs c)
  unfolding all_done
  all_lie k [] c t z h = h
  all_lie k (x ∷ xs) c t z h = all_lie k xs (done K k x c) (done_fits K proper k x c t) (done_counts K proper k x c t z) (done_lies k x c t z h)

  pub run_lies : (k : ℕ) (xs : List Command) → ConfigLies K (run K k xs)
  unfolding run room
  run_lies k xs = all_lie k xs (steps K k (booted K)) (steps_fit K proper k (booted K) (booted_fits K proper)) (steps_counts K proper k (booted K) (booted_fits K proper) (booted_counts K proper)) (steps_lie K proper k (booted K) (booted_fits K proper) (booted_counts K proper) tt)
