-- Commands and runs of a proper kernel keep which instances aliases name.
use Rattle.std.proofs.Common.{◌≡◌, refl, sym, ap, subst, ◌≤◌, ℕ, zero, suc, ◌+◌, ◌-◌, ℤ, pos, nat_le, Bool, true, false, if◌then◌else◌, ◌==◌, List, [], ◌∷◌, Option, Some, None, arith}
use Rattle.std.proofs.lemmas.Bool.{and_parts, and_from, false≢true}
use Rattle.std.specs.List.{list_all}
use Rattle.ceu_tree.specs.declared.command.Command.{Command}
use Rattle.ceu_tree.specs.declared.command.Command.TheVariants.{Input, Advance, Idle}
use Rattle.ceu_tree.specs.declared.kernel.Kernel.{Kernel}
use Rattle.ceu_tree.specs.declared.kernel.KBlock.{KBlock}
use Rattle.ceu_tree.specs.declared.kernel.KStmt.{out-KStmt}
use Rattle.ceu_tree.specs.declared.kernel.KStmt.TheOpen.{KStmt-F}
use Rattle.ceu_tree.specs.Residual.{Body, Program, Act, Finish, Again, Residual, Run, WaitInput, WaitTime, InAsync}
use Rattle.ceu_tree.specs.Focus.{Focus, plug, leaf, body_of, choose}
use Rattle.ceu_tree.specs.World.{World, Cell, Held}
use Rattle.ceu_tree.specs.Wake.{each_leaf, leaves, runs_at, by_input, later, by_time, least_time, Unserved, unserved, new_round}
use Rattle.ceu_tree.specs.Leaf as does
use Rattle.ceu_tree.specs.Leaf.{Does, acted}
use Rattle.ceu_tree.specs.Around.{Outcome, Goes, Rests, Raises, Fails, Past, Registers, AtBlockEnd, AtLoopHead, Ends, Leaves, Moved}
use Rattle.ceu_tree.specs.Step.{unseat, killed, does_in, stepped}
use Rattle.ceu_tree.specs.Legal.{Seated, seats}
use Rattle.ceu_tree.specs.Proper.{Scope, is_proper}
use Rattle.ceu_tree.specs.Run.{Config, Turning, Between, Waiting, Ended, Faulted, steps, booted, reacts, input, advance, is_again, Served, Unfinished, Turned, Done, Failed, serve, serve_first, after_serving, served, idle_turn, idle_turns, done, all_done, run}
use Rattle.laws_meaning_basics.proofs.FocusBalance.{FoundIn, choose_found}
use Rattle.laws_meaning_basics.specs.Shape.{Part, ABlock, AStatement, program_part, async_scope, pauses, Fits, to_finish, Around, TurnFits, Comes, ConfigFits}
use Rattle.laws_meaning_basics.proofs.Fits.{around_raised, plug_fits}
use Rattle.laws_meaning_basics.proofs.Leaves.{leaves_fit, by_input_fits, by_time_fits, later_fits, round_fits}
use Rattle.laws_meaning_basics.proofs.Choice.{ChoiceFits, choice_fits}
use Rattle.laws_meaning_basics.proofs.UpFits.{layer_of}
use Rattle.laws_meaning_basics.proofs.StepFits.{around_sound, around_trail, stepped_fits}
use Rattle.laws_meaning_basics.proofs.RunFits.{root_sound, turn_of_chosen, steps_fit, booted_fits, async_leaf, idle_turn_fits, done_fits}
use Rattle.laws_meaning_instances.proofs.Living.{lives}
use Rattle.laws_meaning_instances.proofs.Trees.{live_focus, plug_lives}
use Rattle.laws_meaning_instances.proofs.Leaf.{acted_fresh}
use Rattle.laws_meaning_instances.proofs.Rooms.{Room, acted_room}
use Rattle.laws_meaning_instances.proofs.Reactions.{ConfigCounts, counts_same, found_stands, steps_counts, booted_counts}
use Rattle.laws_meaning_instances.proofs.Commands.{by_input_calm, by_time_calm, later_calm, round_calm, TreeCounts, leaves_counts, AsyncPart, first_counts, unserved_lives, unserved_stands, after_counts, idle_turn_counts, done_counts}
use Rattle.laws_meaning_slots.proofs.Slots.{once}
use Rattle.laws_meaning_slots.proofs.Values.{held}
use Rattle.laws_meaning_slots.proofs.Aborts.{LieIn}
use Rattle.laws_meaning_slots.proofs.Given.{does_given}
use Rattle.laws_meaning_slots.proofs.Kept.{is_name, killed_keeps, answered_keeps, acted_keeps}
use Rattle.laws_meaning_slots.proofs.Seats.{each_seat, Calm, plug_seats, unplug_seats, leaves_seats}
use Rattle.laws_meaning_slots.specs.Names.{low, one, agrees}
use Rattle.laws_meaning_slots.proofs.Agree.{plain_agrees, tests_more}
use Rattle.laws_meaning_slots.proofs.NameRuns.{TreeNames, ConfigNames, lower, same_names, steps_names}

-- ---- changes of leaves

either_seats : (P : Seated → Type 0) (b : Bool) (x y : Residual) (body : Body) → each_seat P x body → each_seat P y body → each_seat P (if b then x else y) body
either_seats P true x y body h k = h
either_seats P false x y body h k = k

input_seats : (P : Seated → Type 0) (event : ℕ) (v : ℤ) → Calm P (by_input event v)
unfolding each_seat
input_seats P event v (WaitInput k s) body h = either_seats P (k == event) _ _ body tt tt
input_seats P event v r body h = h

time_seats : (P : Seated → Type 0) (d : ℕ) → Calm P (by_time d)
unfolding each_seat
time_seats P d (WaitTime left s) body h = either_seats P (left == 0) _ _ body tt tt
time_seats P d r body h = h

later_seats : (P : Seated → Type 0) (d : ℕ) → Calm P (later d)
unfolding each_seat
later_seats P d (WaitTime left s) body h = tt
later_seats P d r body h = h

round_seats : (P : Seated → Type 0) → Calm P new_round
unfolding each_seat
round_seats P (InAsync s b r) body h = tt
round_seats P r body h = h

leaves_names : (K : Kernel) (c : Residual → Residual) (r : Residual) (w : World) → ((P : Seated → Type 0) → Calm P c) → TreeNames K r w
    → TreeNames K (each_leaf c r) w
leaves_names K c r w calm h = same_names K r (each_leaf c r) w (λ P e. leaves_seats P c (calm P) r Program e) h

-- ---- where nothing is spawned, no value names an instance anew

pub record Keeps (w u : World) : Type 0 where
  pub given : w.given ≤ u.given
  pub values : (m : Held → ℕ) → ((b : Body) (s : ℕ) (c : Cell) → is_name c ≡ false → 1 ≤ m (held b s c)) → LieIn m w → LieIn m u

keeps_then : (w u v : World) → Keeps w u → Keeps u v → Keeps w v
keeps_then w u v a b = record { given = (let x = a.given in let y = b.given in omega (arith, x, y)); values = λ m plain l. b.values m plain (a.values m plain l) }

abbrev NoSpawn : Does → Type 0
NoSpawn (does.Spawns s c code pool alias vs) = ⊥
NoSpawn d = Unit {0}

module _ (K : Kernel) where
  kept_names : (r : Residual) (w u : World) → Keeps w u → TreeNames K r w → TreeNames K r u
  kept_names r w u k h =
      k.values (λ x. once (agrees K u.given (seats r Program) x)) (plain_agrees K u.given (seats r Program)) (tests_more (agrees K w.given (seats r Program)) (agrees K u.given (seats r Program)) (λ x e. (
      let a = and_parts (low w.given x.cell) (list_all (one K x) (seats r Program)) e in and_from (low u.given x.cell) (list_all (one K x) (seats r Program)) (lower K w.given u.given x.cell k.given a.0) a.1)) w.values h)

  module _ (n : ℕ) (root : Body) (f : Focus Act) where
    abbrev Kept : World → Moved → Type 0
    Kept w m = Keeps w m.world

    does_keeps : (d : Does) (w : World) → NoSpawn d → Kept w (does_in K n root (body_of f root) f d w)
    does_keeps (does.Spawns s c code pool alias vs) w h = absurd h
    does_keeps (does.Opens x) w h = record { given = omega arith; values = λ m plain l. l }
    does_keeps (does.Waits r) w h = record { given = omega arith; values = λ m plain l. l }
    does_keeps does.Passes w h = record { given = does_given K n root (body_of f root) f does.Passes w; values = λ m plain l. answered_keeps m plain root f Past w l }
    does_keeps (does.Leaves node x) w h = record { given = does_given K n root (body_of f root) f (does.Leaves node x) w; values = λ m plain l. answered_keeps m plain root f (Leaves node x) w l }
    does_keeps (does.Registers s) w h = record { given = does_given K n root (body_of f root) f (does.Registers s) w; values = λ m plain l. answered_keeps m plain root f (Registers s) w l }
    does_keeps does.Ends w h = record { given = does_given K n root (body_of f root) f does.Ends w; values = λ m plain l. answered_keeps m plain root f AtBlockEnd w l }
    does_keeps does.Heads w h = record { given = does_given K n root (body_of f root) f does.Heads w; values = λ m plain l. answered_keeps m plain root f AtLoopHead w l }
    does_keeps (does.Emits s event v) w h = record { given = omega arith; values = λ m plain l. l }
    does_keeps (does.Kills k) w h = record { given = does_given K n root (body_of f root) f (does.Kills k) w; values = λ m plain l. answered_keeps m plain root (unseat k f) Past (killed k f w) (killed_keeps m plain k f w l) }
    does_keeps (does.Fails e) w h = record { given = omega arith; values = λ m plain l. l }

    stepped_keeps : (w : World) → NoSpawn (acted K n (body_of f root) (leaf f) w).does → Kept w (stepped K n root f w)
    unfolding stepped
    stepped_keeps w h =
        let d = acted K n (body_of f root) (leaf f) w in
        let same = (acted_fresh w K n (body_of f root) (leaf f)).quiet.given in
        keeps_then w d.world _ (record { given = omega (arith, same); values = λ m plain l. acted_keeps m plain K n (body_of f root) (leaf f) w l }) (does_keeps d.does d.world h)

  module _ (proper : is_proper K ≡ true) where
    none_spawned : {t : ℕ} {f : Focus Act} {d e : Part} (x : Does) → AsyncPart K proper d → Around K t Act f d e → Room K proper e x → NoSpawn x
    none_spawned (does.Spawns s c code pool alias vs) p a r = absurd (p.apart (around_trail K proper a p.sound r.0))
    none_spawned (does.Opens x) p a r = tt
    none_spawned (does.Waits x) p a r = tt
    none_spawned does.Passes p a r = tt
    none_spawned (does.Leaves node x) p a r = tt
    none_spawned (does.Registers s) p a r = tt
    none_spawned does.Ends p a r = tt
    none_spawned does.Heads p a r = tt
    none_spawned (does.Emits s event v) p a r = tt
    none_spawned (does.Kills k) p a r = tt
    none_spawned (does.Fails e) p a r = tt

    -- ---- reactions, inputs and time

    reacts_names : (k : ℕ) (r : Residual) (w : World) → Fits K 1 (program_part K) r → TreeCounts r w → TreeNames K r w → ConfigNames K (reacts K k r w)
    reacts_names k r w t z h = steps_names K proper k (Between 0 r w) t z h

    input_names : (k event : ℕ) (v : ℤ) (c : Config) → ConfigFits K c → ConfigCounts c → ConfigNames K c → ConfigNames K (input K k event v c)
    input_names k event v (Waiting r w) t z h =
        reacts_names k (each_leaf (by_input event v) r) w (leaves_fit K 0 1 (by_input event v) (by_input_fits K event v) t) (leaves_counts (by_input event v) (by_input_calm event v) r w z) (leaves_names K (by_input event v) r w (λ P. input_seats P event v) h)
    input_names k event v (Turning n f w) t z h = h
    input_names k event v (Between n r w) t z h = h
    input_names k event v (Ended x w) t z h = h
    input_names k event v (Faulted e w) t z h = h

    advance_names : (k j d : ℕ) (c : Config) → ConfigFits K c → ConfigCounts c → ConfigNames K c → ConfigNames K (advance K k j d c)
    unfolding advance
    advance_names k zero d c t z h = h
    advance_names k (suc j) d (Waiting r w) t z h = go (least_time (leaves r)) (λ m. advance_names k j (d - m) (timed m) (timed_fits m) (timed_counts m) (timed_names m))
      where
        later_on : ℕ → Residual
        later_on m = each_leaf (later m) r

        next_on : ℕ → Residual
        next_on m = each_leaf (by_time (d - m)) (later_on m)

        timed : ℕ → Config
        timed m = reacts K k (next_on m) w

        fits : (m : ℕ) → Fits K 1 (program_part K) (next_on m)
        fits m = leaves_fit K 0 1 (by_time (d - m)) (by_time_fits K (d - m)) (leaves_fit K 0 0 (later m) (later_fits K m) t)

        timed_fits : (m : ℕ) → ConfigFits K (timed m)
        timed_fits m = steps_fit K proper k (Between 0 (next_on m) w) (fits m)

        counts : (m : ℕ) → TreeCounts (next_on m) w
        counts m = leaves_counts (by_time (d - m)) (by_time_calm (d - m)) (later_on m) w (leaves_counts (later m) (later_calm m) r w z)

        timed_counts : (m : ℕ) → ConfigCounts (timed m)
        timed_counts m = steps_counts K proper k (Between 0 (next_on m) w) (fits m) (counts m)

        timed_names : (m : ℕ) → ConfigNames K (timed m)
        timed_names m = reacts_names k (next_on m) w (fits m) (counts m) (leaves_names K (by_time (d - m)) (later_on m) w (λ P. time_seats P (d - m)) (leaves_names K (later m) r w (λ P. later_seats P m) h))

        go : (o : Option ℕ) → ((m : ℕ) → ConfigNames K (advance K k j (d - m) (timed m))) → ConfigNames K (elim o [
          | None ↦ Waiting r w
          | Some m ↦ elim (nat_le m d) [
            | true ↦ advance K k j (d - m) (timed m)
            | false ↦ Waiting (each_leaf (later d) r) w
          ]
        ])
        go None ih = h
        go (Some m) ih = inner (nat_le m d)
          where
            inner : (b : Bool) → ConfigNames K (elim b [ true ↦ advance K k j (d - m) (timed m) | false ↦ Waiting (each_leaf (later d) r) w ])
            inner true = ih m
            inner false = leaves_names K (later d) r w (λ P. later_seats P d) h
    advance_names k (suc j) d (Turning n f w) t z h = h
    advance_names k (suc j) d (Between n r w) t z h = h
    advance_names k (suc j) d (Ended x w) t z h = h
    advance_names k (suc j) d (Faulted e w) t z h = h

    -- ---- asyncs

    abbrev ServedKeeps : World → Served → Type 0
    ServedKeeps w (Turned r u) = Keeps w u
    ServedKeeps w (Done u) = Keeps w u
    ServedKeeps w x = Unit {0}

    served_then : (w u : World) (x : Served) → Keeps w u → ServedKeeps u x → ServedKeeps w x
    served_then w u (Turned r v) a b = keeps_then w u v a b
    served_then w u (Done v) a b = keeps_then w u v a b
    served_then w u Unfinished a b = tt
    served_then w u (Failed e r v) a b = tt

    serve_keeps : (k : ℕ) (root : Body) (f : Focus Act) (w : World) (d : Part) → AsyncPart K proper d → TurnFits K 1 d f → ServedKeeps w (serve K k root f w)
    unfolding serve
    serve_keeps zero root f w d a t = tt
    serve_keeps (suc k) root f w d a t = go (stepped K 0 root f w).outcome (stepped_fits K proper 0 root f w d a.closed a.sound t) (λ q y. serve_keeps k root q u d a y)
      where
        u : World
        u = (stepped K 0 root f w).world

        kept : Keeps w u
        kept = stepped_keeps 0 root f w (none_spawned (acted K 0 (body_of f root) (leaf f) w).does a t.around (acted_room K proper 0 (body_of f root) t.part (leaf f) w (around_sound K proper t.around a.sound) t.acts))

        go : (x : Outcome) → Comes K 0 d x → ((q : Focus Act) → TurnFits K 1 d q → ServedKeeps u (serve K k root q u))
            → ServedKeeps w (elim x [
              | Goes g ↦ elim (is_again (leaf g)) [ true ↦ Turned (plug g (Run 0 Again)) u | false ↦ serve K k root g u ]
              | Fails e r ↦ Failed e r u
              | Rests r ↦ Turned r u
              | Raises r ↦ Turned r u
              | _ ↦ Done u
            ])
        go (Goes q) y ih = inner (is_again (leaf q))
          where
            inner : (b : Bool) → ServedKeeps w (elim b [ true ↦ Turned (plug q (Run 0 Again)) u | false ↦ serve K k root q u ])
            inner true = kept
            inner false = served_then w u (serve K k root q u) kept (ih q y)
        go (Fails e r) y ih = tt
        go (Rests r) y ih = kept
        go (Raises r) y ih = kept
        go (Ends v) y ih = kept
        go Past y ih = kept
        go (Registers s) y ih = kept
        go AtBlockEnd y ih = kept
        go AtLoopHead y ih = kept
        go (Leaves node e) y ih = kept

    first_keeps : (k : ℕ) (root : Body) (p : Option (Focus Act)) (r : Residual) (w : World) (d : Part) → AsyncPart K proper d → ChoiceFits K 1 Act (runs_at 0) d p
        → ServedKeeps w (serve_first K k root p r w)
    first_keeps k root None r w d a t = record { given = omega arith; values = λ m plain l. l }
    first_keeps k root (Some f) r w d a t = serve_keeps k root f w d a (turn_of_chosen K proper 0 d f t)

    -- an async has no seats
    async_seats : (o : Focus Unserved) (r q : Residual) (x : FoundIn Unserved unserved r (Some o)) → ((P : Seated → Type 0) → each_seat P q (body_of o Program))
        → (P : Seated → Type 0) → each_seat P r Program → each_seat P (plug o q) Program
    async_seats o r q x f P e = plug_seats P o q Program (unplug_seats P o x.was Program (subst (λ y. each_seat P y Program) (sym x.plugs) e)).0 (f P)

    after_names : (k : ℕ) (o : Focus Unserved) (x : Served) (r : Residual) (w : World) (sc : Scope) (b : KBlock)
        → Around K 0 Unserved o (program_part K) (AStatement sc (leaf o).stmt) → out-KStmt (leaf o).stmt.stmt ≡ KStmt-F.Async b
        → FoundIn Unserved unserved r (Some o) → ConfigCounts (after_serving K 0 o x r w) → TreeNames K r w → ServedKeeps w x → ConfigNames K (after_serving K k o x r w)
    unfolding each_seat steps
    after_names k o Unfinished r w sc b a e f z h s = h
    after_names k o (Turned q u) r w sc b a e f z h s = same_names K r (plug o (InAsync (leaf o).stmt true q)) u (async_seats o r (InAsync (leaf o).stmt true q) f (λ P. tt)) (kept_names r w u s h)
    after_names k o (Done u) r w sc b a e f z h s =
        reacts_names k (plug o (Run 0 (Finish (leaf o).stmt (pos 0)))) u (plug_fits K (around_raised K (omega arith) a) (to_finish (omega arith) (ap pauses e))) z
        (same_names K r (plug o (Run 0 (Finish (leaf o).stmt (pos 0)))) u (async_seats o r (Run 0 (Finish (leaf o).stmt (pos 0))) f (λ P. tt)) (kept_names r w u s h))
    after_names k o (Failed y q u) r w sc b a e f z h s = tt

    served_names : (k : ℕ) (p : Option (Focus Unserved)) (r : Residual) (w : World) → ChoiceFits K 0 Unserved unserved (program_part K) p
        → FoundIn Unserved unserved r p → TreeCounts r w → TreeNames K r w → ConfigNames K (served K k p r w)
    served_names k None r w t x z h = h
    served_names k (Some o) r w t x z h =
        let l = async_leaf K proper t.part t.was (leaf o) t.fits t.picked in
        let a : Around K 0 Unserved o (program_part K) (AStatement l.scope (leaf o).stmt) = subst (Around K 0 Unserved o (program_part K)) l.is t.around in
        let p : AsyncPart K proper (ABlock false (async_scope K l.scope) l.block) = record {
          closed = λ node u v. false≢true u;
          sound = (layer_of K proper l.scope (leaf o).stmt (KStmt-F.Async l.block) l.layer (around_sound K proper a (root_sound K proper))).1;
          apart = λ u. false≢true u;
        } in
        let f = found_stands unserved r o x z.1 in
        let q = choose Act (runs_at 0) (leaf o).inner in
        let c = choice_fits K 1 Act (runs_at 0) l.fits in
        let d = choose_found Act (runs_at 0) (leaf o).inner in
        let counts = first_counts K proper (λ i. live_focus i o) k (body_of o Program) q (leaf o).inner w _ p c d
        (counts_same (λ i. lives i r) (λ i. lives i (leaf o).inner + live_focus i o) w w (record { living = refl; given = refl })
        (λ i. (let u = plug_lives i o x.was in let v = unserved_lives K proper i x.was (leaf o) x.picked in let y = ap (lives i) x.plugs in omega (arith, u, v, y))) z.0)
        (unserved_stands K proper x.was (leaf o) x.picked f.1) in
        after_names k o _ r w l.scope l.block a l.layer x (after_counts K proper 0 o _ r w l.scope l.block a l.layer f.0 z counts) h (first_keeps k (body_of o Program) q (leaf o).inner w _ p c)

    idle_turn_names : (k : ℕ) (c : Config) → ConfigFits K c → ConfigCounts c → ConfigNames K c → ConfigNames K (idle_turn K k c)
    idle_turn_names k (Waiting r w) t z h = go (choose Unserved unserved r) (choice_fits K 0 Unserved unserved t) (choose_found Unserved unserved r)
      where
        new : Residual
        new = each_leaf new_round r

        go : (o : Option (Focus Unserved)) → ChoiceFits K 0 Unserved unserved (program_part K) o → FoundIn Unserved unserved r o
            → ConfigNames K (elim o [ Some g ↦ served K k (Some g) r w | None ↦ served K k (choose Unserved unserved new) new w ])
        go (Some g) c x = served_names k (Some g) r w c x z h
        go None c x =
            served_names k (choose Unserved unserved new) new w (choice_fits K 0 Unserved unserved (leaves_fit K 0 0 new_round (round_fits K) t)) (choose_found Unserved unserved new) (leaves_counts new_round round_calm r w z)
            (leaves_names K new_round r w (λ P. round_seats P) h)
    idle_turn_names k (Turning n f w) t z h = h
    idle_turn_names k (Between n r w) t z h = h
    idle_turn_names k (Ended x w) t z h = h
    idle_turn_names k (Faulted e w) t z h = h

    idle_turns_name : (k j : ℕ) (c : Config) → ConfigFits K c → ConfigCounts c → ConfigNames K c → ConfigNames K (idle_turns K k j c)
    idle_turns_name k zero c t z h = h
    idle_turns_name k (suc j) c t z h = idle_turns_name k j (idle_turn K k c) (idle_turn_fits K proper k c t) (idle_turn_counts K proper k c t z) (idle_turn_names k c t z h)

    pub done_names : (k : ℕ) (x : Command) (c : Config) → ConfigFits K c → ConfigCounts c → ConfigNames K c → ConfigNames K (done K k x c)
    unfolding done
    done_names k (Input event v) c t z h = input_names k event v c t z h
    done_names k (Advance us) c t z h = advance_names k (us + 1) us c t z h
    done_names k (Idle j) c t z h = idle_turns_name k j c t z h

    all_name : (k : ℕ) (xs : List Command) (c : Config) → ConfigFits K c → ConfigCounts c → ConfigNames K c → ConfigNames K (all_done K k xs c)
    unfolding all_done
    all_name k [] c t z h = h
    all_name k (x ∷ xs) c t z h = all_name k xs (done K k x c) (done_fits K proper k x c t) (done_counts K proper k x c t z) (done_names k x c t z h)

    pub run_names : (k : ℕ) (xs : List Command) → ConfigNames K (run K k xs)
    unfolding run
    run_names k xs = all_name k xs (steps K k (booted K)) (steps_fit K proper k (booted K) (booted_fits K proper)) (steps_counts K proper k (booted K) (booted_fits K proper) (booted_counts K proper)) (steps_names K proper k (booted K) (booted_fits K proper) (booted_counts K proper) tt)
