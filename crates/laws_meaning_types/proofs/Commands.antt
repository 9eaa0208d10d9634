-- Commands and runs of a proper kernel keep stores well-typed.
use Rattle.std.proofs.Common.{◌≡◌, refl, sym, ap, subst, ℕ, zero, suc, ◌+◌, ◌-◌, min, ℤ, pos, nat_le, Bool, true, false, if◌then◌else◌, ◌==◌, List, [], ◌∷◌, Option, Some, None, arith, eqb-true}
use Rattle.std.proofs.lemmas.Bool.{false≢true}
use Rattle.std.proofs.lemmas.Int.{ints}
use Rattle.ceu_base.specs.declared.kinds.Ty.{Ty}
use Rattle.ceu_base.specs.declared.kinds.Ty.TheVariants as ty
use Rattle.ceu_base.specs.Values.{IsValue}
use Rattle.ceu_tree.specs.declared.command.Command.{Command}
use Rattle.ceu_tree.specs.declared.command.Command.TheVariants.{Input, Advance, Idle}
use Rattle.ceu_tree.specs.declared.kernel.Kernel.{Kernel}
use Rattle.ceu_tree.specs.declared.kernel.KNode.{KNode}
use Rattle.ceu_tree.specs.declared.kernel.KBlock.{KBlock}
use Rattle.ceu_tree.specs.declared.kernel.KStmt.{out-KStmt}
use Rattle.ceu_tree.specs.declared.kernel.KStmt.TheOpen.{KStmt-F}
use Rattle.ceu_tree.specs.Residual.{Body, Program, Act, Begin, Start, Finish, AtEnd, AtHead, Again, Residual, Run, WaitInput, WaitTime, InAsync}
use Rattle.ceu_tree.specs.Focus.{Focus, plug, leaf, body_of, choose}
use Rattle.ceu_tree.specs.World.{World}
use Rattle.ceu_tree.specs.Wake.{each_leaf, leaves, runs_at, by_input, later, by_time, least_time, Unserved, unserved, new_round}
use Rattle.ceu_tree.specs.Leaf.{target}
use Rattle.ceu_tree.specs.Around.{Outcome, Goes, Rests, Raises, Fails, Past, Registers, AtBlockEnd, AtLoopHead, Ends, Leaves}
use Rattle.ceu_tree.specs.Step.{stepped}
use Rattle.ceu_tree.specs.Proper.{Scope, port_ty, is_proper}
use Rattle.ceu_tree.specs.Run.{Config, Turning, Between, Waiting, Ended, Faulted, steps, booted, reacts, input, advance, is_again, Served, Unfinished, Turned, Done, Failed, serve, serve_first, after_serving, served, idle_turn, idle_turns, done, all_done, run}
use Rattle.laws_meaning_basics.proofs.FocusBalance.{FoundIn, choose_found}
use Rattle.laws_meaning_basics.specs.Shape.{Part, ABlock, AStatement, program_part, async_scope, pauses, Fits, to_finish, Around, nothing_around, one_around, TurnFits, Comes, ConfigFits}
use Rattle.laws_meaning_basics.proofs.Fits.{around_raised, plug_fits}
use Rattle.laws_meaning_basics.proofs.Leaves.{leaves_fit, by_input_fits, by_time_fits, later_fits, round_fits}
use Rattle.laws_meaning_basics.proofs.Choice.{ChoiceFits, choice_fits}
use Rattle.laws_meaning_basics.proofs.UpFits.{Sound, layer_of}
use Rattle.laws_meaning_basics.proofs.StepFits.{Closed, around_sound, stepped_fits}
use Rattle.laws_meaning_basics.proofs.RunFits.{root_sound, turn_of_chosen, steps_fit, booted_fits, async_leaf, idle_turn_fits, done_fits}
use Rattle.laws_meaning_values.proofs.Grounds.{inner_ground}
use Rattle.laws_meaning_values.proofs.Ranges.{value_from}
use Rattle.laws_meaning_slots.specs.Typed.{all_typed}
use Rattle.laws_meaning_slots.proofs.Aims.{Inside, frame_inside}
use Rattle.laws_meaning_slots.proofs.Known.{Known, async_known, program_known, around_known}
use Rattle.laws_meaning_counters.specs.Counters.{is_first}
use Rattle.laws_meaning_counters.specs.Ints.{tree_int, focus_int, outcome_int}
use Rattle.laws_meaning_counters.proofs.IntTrees as ints
use Rattle.laws_meaning_types.specs.Ready.{tree_ready, frames_ready}
use Rattle.laws_meaning_types.specs.Stores.{TreeTyped, TurnTyped, StoresTyped, CommandTyped}
use Rattle.laws_meaning_types.specs.Laws.{all_commands_typed}
use Rattle.laws_meaning_types.proofs.Trees.{at_end, end_plug, end_first, plugged, unplugged, leaves_ready}
use Rattle.laws_meaning_types.proofs.Values.{takes_zero}
use Rattle.laws_meaning_types.proofs.Steps.{outcome_ready}
use Rattle.laws_meaning_types.proofs.Reactions.{Stepped, turn_typed, root_inside, found_typed, steps_typed}

-- ---- changes of leaves

either_int : (b : Bool) (x y : Residual) → tree_int x → tree_int y → tree_int (if b then x else y)
either_int true x y h k = h
either_int false x y h k = k

input_int : (event : ℕ) (v : ℤ) (r : Residual) → tree_int r → tree_int (by_input event v r)
unfolding tree_int
input_int event v (WaitInput k s) h = either_int (k == event) _ _ tt tt
input_int event v r h = h

time_int : (d : ℕ) (r : Residual) → tree_int r → tree_int (by_time d r)
unfolding tree_int
time_int d (WaitTime left s) h = either_int (left == 0) _ _ tt tt
time_int d r h = h

later_int : (d : ℕ) (r : Residual) → tree_int r → tree_int (later d r)
unfolding tree_int
later_int d (WaitTime left s) h = h
later_int d r h = h

round_int : (r : Residual) → tree_int r → tree_int (new_round r)
unfolding tree_int
round_int (InAsync s b r) h = h
round_int r h = h

delay_value : (delay : ℕ) → IsValue ty.S32 (pos (min delay 2147483647))
delay_value delay = value_from ty.S32 (pos (min delay 2147483647)) (omega (arith, ints)) (omega (arith, ints))

again_later : (a : Act) → is_again a ≡ true → is_first a ≡ false
again_later Again e = refl
again_later (Begin b) e = refl
again_later (Start s) e = refl
again_later (Finish s v) e = refl
again_later AtEnd e = refl
again_later AtHead e = absurd (false≢true e)

-- ---- an async

unserved_int : (r : Residual) (x : Unserved) → unserved r ≡ Some x → tree_int r → tree_int x.inner
unfolding tree_int
unserved_int (InAsync s false r) x e h = inner e
  where
    inner : Some (record { stmt = s; inner = r }) ≡ Some x → tree_int x.inner
    inner q = subst (λ (u : Unserved). tree_int u.inner) (ap (λ o. elim o [ None ↦ record { stmt = s; inner = r } | Some u ↦ u ]) q) h
unserved_int r x e h = absurd (cc)

module _ (K : Kernel) where
  either_ready : (b : Bool) (x y : Residual) → tree_ready K x → tree_ready K y → tree_ready K (if b then x else y)
  either_ready true x y h k = h
  either_ready false x y h k = k

  input_ready : (event : ℕ) (v : ℤ) → ((t : Ty) → port_ty K event K.inputs ≡ Some t → IsValue t v) → (r : Residual) → tree_ready K r
      → tree_ready K (by_input event v r)
  unfolding tree_ready
  input_ready event v h (WaitInput k s) r = go (k == event) refl
    where
      go : (b : Bool) → (k == event) ≡ b → tree_ready K (if b then Run 0 (Finish s v) else WaitInput k s)
      go true q = r.2 v (h r.0 (subst (λ j. port_ty K j K.inputs ≡ Some r.0) (eqb-true k event q) r.1))
      go false q = r
  input_ready event v h q r = r

  time_ready : (d : ℕ) (r : Residual) → tree_ready K r → tree_ready K (by_time d r)
  unfolding tree_ready
  time_ready d (WaitTime left s) h = either_ready (left == 0) _ _ (h (pos (min d 2147483647)) (delay_value d)) h
  time_ready d r h = h

  later_ready : (d : ℕ) (r : Residual) → tree_ready K r → tree_ready K (later d r)
  unfolding tree_ready
  later_ready d (WaitTime left s) h = h
  later_ready d r h = h

  round_ready : (r : Residual) → tree_ready K r → tree_ready K (new_round r)
  unfolding tree_ready
  round_ready (InAsync s b r) h = h
  round_ready r h = h

  unserved_ready : (r : Residual) (x : Unserved) → unserved r ≡ Some x → tree_ready K r → tree_ready K x.inner
  unfolding tree_ready
  unserved_ready (InAsync s false r) x e h = inner e
    where
      inner : Some (record { stmt = s; inner = r }) ≡ Some x → tree_ready K x.inner
      inner q = subst (λ (u : Unserved). tree_ready K u.inner) (ap (λ o. elim o [ None ↦ record { stmt = s; inner = r } | Some u ↦ u ]) q) h
  unserved_ready r x e h = absurd (cc)

  leaves_typed : (g : Residual → Residual) (r : Residual) (w : World) → ((q : Residual) → tree_int q → tree_int (g q))
      → ((q : Residual) → tree_ready K q → tree_ready K (g q)) → TreeTyped K r w → TreeTyped K (each_leaf g r) w
  leaves_typed g r w i t h = record { values = h.values; ranges = ints.leaves_kept g i r h.ranges; trails = leaves_ready K g t r h.trails }

  module _ (proper : is_proper K ≡ true) where
    reacts_typed : (k : ℕ) (r : Residual) (w : World) → Fits K 1 (program_part K) r → TreeTyped K r w → StoresTyped K (reacts K k r w)
    reacts_typed k r w t h = steps_typed K proper k (Between 0 r w) t h

    input_typed : (k event : ℕ) (v : ℤ) (c : Config) → CommandTyped K (Input event v) → ConfigFits K c → StoresTyped K c
        → StoresTyped K (input K k event v c)
    input_typed k event v (Waiting r w) q t h =
        reacts_typed k (each_leaf (by_input event v) r) w (leaves_fit K 0 1 (by_input event v) (by_input_fits K event v) t) (leaves_typed (by_input event v) r w (input_int event v) (input_ready event v q) h)
    input_typed k event v (Turning n f w) q t h = h
    input_typed k event v (Between n r w) q t h = h
    input_typed k event v (Ended x w) q t h = h
    input_typed k event v (Faulted e w) q t h = h

    advance_typed : (k j d : ℕ) (c : Config) → ConfigFits K c → StoresTyped K c → StoresTyped K (advance K k j d c)
    unfolding advance
    advance_typed k zero d c t h = h
    advance_typed k (suc j) d (Waiting r w) t h = go (least_time (leaves r)) (λ m. advance_typed k j (d - m) (timed m) (timed_fits m) (timed_typed m))
      where
        later_on : ℕ → Residual
        later_on m = each_leaf (later m) r

        next_on : ℕ → Residual
        next_on m = each_leaf (by_time (d - m)) (later_on m)

        timed : ℕ → Config
        timed m = reacts K k (next_on m) w

        fits : (m : ℕ) → Fits K 1 (program_part K) (next_on m)
        fits m = leaves_fit K 0 1 (by_time (d - m)) (by_time_fits K (d - m)) (leaves_fit K 0 0 (later m) (later_fits K m) t)

        timed_fits : (m : ℕ) → ConfigFits K (timed m)
        timed_fits m = steps_fit K proper k (Between 0 (next_on m) w) (fits m)

        passed : (m : ℕ) → TreeTyped K (later_on m) w
        passed m = leaves_typed (later m) r w (later_int m) (later_ready m) h

        timed_typed : (m : ℕ) → StoresTyped K (timed m)
        timed_typed m = reacts_typed k (next_on m) w (fits m) (leaves_typed (by_time (d - m)) (later_on m) w (time_int (d - m)) (time_ready (d - m)) (passed m))

        go : (o : Option ℕ) → ((m : ℕ) → StoresTyped K (advance K k j (d - m) (timed m))) → StoresTyped K (elim o [
          | None ↦ Waiting r w
          | Some m ↦ elim (nat_le m d) [
            | true ↦ advance K k j (d - m) (timed m)
            | false ↦ Waiting (each_leaf (later d) r) w
          ]
        ])
        go None ih = h
        go (Some m) ih = inner (nat_le m d)
          where
            inner : (b : Bool) → StoresTyped K (elim b [ true ↦ advance K k j (d - m) (timed m) | false ↦ Waiting (each_leaf (later d) r) w ])
            inner true = ih m
            inner false = passed d
    advance_typed k (suc j) d (Turning n f w) t h = h
    advance_typed k (suc j) d (Between n r w) t h = h
    advance_typed k (suc j) d (Ended x w) t h = h
    advance_typed k (suc j) d (Faulted e w) t h = h

    -- ---- asyncs

    -- a part that stands by itself
    record Apart (d : Part) : Type 0 where
      closed : Closed K proper d
      sound : Sound K proper d
      known : Known K proper d
      inside : Inside d

    abbrev ServedTyped : Served → Type 0
    ServedTyped (Turned r w) = TreeTyped K r w
    ServedTyped (Done w) = all_typed K w
    ServedTyped x = Unit {0}

    serve_typed : (k : ℕ) (root : Body) (f : Focus Act) (w : World) (d : Part) → Apart d → TurnFits K 1 d f → TurnTyped K f w
        → ServedTyped (serve K k root f w)
    unfolding serve tree_int tree_ready
    serve_typed zero root f w d a t x = tt
    serve_typed (suc k) root f w d a t x =
        go (stepped K 0 root f w).outcome (stepped_fits K proper 0 root f w d a.closed a.sound t) s.ranges s.trails (λ q y z. serve_typed k root q u d a y z)
      where
        u : World
        u = (stepped K 0 root f w).world

        s : Stepped K proper (stepped K 0 root f w)
        s = turn_typed K proper 0 root f w d a.closed a.sound a.known a.inside t x

        go : (x : Outcome) → Comes K 0 d x → outcome_int x → outcome_ready K x
            → ((q : Focus Act) → TurnFits K 1 d q → TurnTyped K q u → ServedTyped (serve K k root q u))
            → ServedTyped (elim x [
              | Goes g ↦ elim (is_again (leaf g)) [ true ↦ Turned (plug g (Run 0 Again)) u | false ↦ serve K k root g u ]
              | Fails e r ↦ Failed e r u
              | Rests r ↦ Turned r u
              | Raises r ↦ Turned r u
              | _ ↦ Done u
            ])
        go (Goes q) y i r ih = inner (is_again (leaf q)) refl
          where
            inner : (b : Bool) → is_again (leaf q) ≡ b → ServedTyped (elim b [ true ↦ Turned (plug q (Run 0 Again)) u | false ↦ serve K k root q u ])
            inner true e = record { values = s.values; ranges = ints.plugged q (Run 0 Again) (again_later (leaf q) e) i tt; trails = plugged K q (Run 0 Again) r.0 tt }
            inner false e = ih q y (record { values = s.values; ranges = i; trails = r.0; turn = r.1 })
        go (Fails e q) y i r ih = tt
        go (Rests q) y i r ih = record { values = s.values; ranges = i; trails = r }
        go (Raises q) y i r ih = record { values = s.values; ranges = i; trails = r }
        go (Ends v) y i r ih = s.values
        go Past y i r ih = s.values
        go (Registers z) y i r ih = s.values
        go AtBlockEnd y i r ih = s.values
        go AtLoopHead y i r ih = s.values
        go (Leaves node e) y i r ih = s.values

    first_typed : (k : ℕ) (root : Body) (p : Option (Focus Act)) (r : Residual) (w : World) (d : Part) → Apart d
        → ChoiceFits K 1 Act (runs_at 0) d p → FoundIn Act (runs_at 0) r p → TreeTyped K r w → ServedTyped (serve_first K k root p r w)
    first_typed k root None r w d a t x h = h
    first_typed k root (Some f) r w d a t x h = serve_typed k root f w d a (turn_of_chosen K proper 0 d f t) (found_typed K proper 0 r w f x h)

    around_inside : {A : Type 0} {t : ℕ} {f : Focus A} {d e : Part} → Around K t A f d e → Inside d → Inside e
    around_inside nothing_around i = i
    around_inside (one_around a more) i = around_inside more (frame_inside K proper a i.ground i.on i.low)

    async_apart : (sc : Scope) (s : KNode) (b : KBlock) → out-KStmt s.stmt ≡ KStmt-F.Async b → Sound K proper (AStatement sc s)
        → Known K proper (AStatement sc s) → Inside (AStatement sc s) → Apart (ABlock false (async_scope K sc) b)
    async_apart sc s b e h k i = record {
      closed = λ node u v. false≢true u;
      sound = (layer_of K proper sc s (KStmt-F.Async b) e h).1;
      known = async_known K proper sc s b e k;
      inside = (let g = inner_ground s (KStmt-F.Async b) i.ground e i.on in record { ground = g.ground; on = g.on; low = tt });
    }

    after_typed : (k : ℕ) (o : Focus Unserved) (x : Served) (r : Residual) (w : World) (sc : Scope) (b : KBlock)
        → Around K 0 Unserved o (program_part K) (AStatement sc (leaf o).stmt) → out-KStmt (leaf o).stmt.stmt ≡ KStmt-F.Async b
        → frames_ready K o → focus_int (at_end o) → TreeTyped K r w → ServedTyped x → StoresTyped K (after_serving K k o x r w)
    unfolding tree_int tree_ready
    after_typed k o Unfinished r w sc b a e p i h s = record { values = h.values; ranges = h.ranges; trails = h.trails }
    after_typed k o (Turned q u) r w sc b a e p i h s = record {
      values = s.values;
      ranges = subst tree_int (end_plug o (InAsync (leaf o).stmt true q)) (ints.plugged (at_end o) (InAsync (leaf o).stmt true q) (end_first o) i s.ranges);
      trails = plugged K o (InAsync (leaf o).stmt true q) p s.trails;
    }
    after_typed k o (Done u) r w sc b a e p i h s =
        reacts_typed k (plug o (Run 0 (Finish (leaf o).stmt (pos 0)))) u (plug_fits K (around_raised K (omega arith) a) (to_finish (omega arith) (ap pauses e))) (record {
          values = s;
          ranges = subst tree_int (end_plug o (Run 0 (Finish (leaf o).stmt (pos 0)))) (ints.plugged (at_end o) (Run 0 (Finish (leaf o).stmt (pos 0))) (end_first o) i tt);
          trails = plugged K o (Run 0 (Finish (leaf o).stmt (pos 0))) p (takes_zero (target (leaf o).stmt));
        })
    after_typed k o (Failed y q u) r w sc b a e p i h s = tt

    served_typed : (k : ℕ) (p : Option (Focus Unserved)) (r : Residual) (w : World) → ChoiceFits K 0 Unserved unserved (program_part K) p
        → FoundIn Unserved unserved r p → TreeTyped K r w → StoresTyped K (served K k p r w)
    served_typed k None r w t x h = h
    served_typed k (Some o) r w t x h =
        let l = async_leaf K proper t.part t.was (leaf o) t.fits t.picked in
        let a : Around K 0 Unserved o (program_part K) (AStatement l.scope (leaf o).stmt) = subst (Around K 0 Unserved o (program_part K)) l.is t.around in
        let p = async_apart l.scope (leaf o).stmt l.block l.layer (around_sound K proper a (root_sound K proper)) (around_known K proper a (program_known K proper)) (around_inside a (root_inside K proper)) in
        let y = unplugged K o x.was (subst (tree_ready K) (sym x.plugs) h.trails) in
        let z = ints.unplugged (at_end o) x.was (subst tree_int (sym (end_plug o x.was)) (subst tree_int (sym x.plugs) h.ranges)) in
        after_typed k o _ r w l.scope l.block a l.layer y.0 z.0 h
        (first_typed k (body_of o Program) (choose Act (runs_at 0) (leaf o).inner) (leaf o).inner w _ p (choice_fits K 1 Act (runs_at 0) l.fits) (choose_found Act (runs_at 0) (leaf o).inner)
        (record { values = h.values; ranges = unserved_int x.was (leaf o) x.picked z.1; trails = unserved_ready x.was (leaf o) x.picked y.1 }))

    idle_turn_typed : (k : ℕ) (c : Config) → ConfigFits K c → StoresTyped K c → StoresTyped K (idle_turn K k c)
    idle_turn_typed k (Waiting r w) t h = go (choose Unserved unserved r) (choice_fits K 0 Unserved unserved t) (choose_found Unserved unserved r)
      where
        new : Residual
        new = each_leaf new_round r

        go : (o : Option (Focus Unserved)) → ChoiceFits K 0 Unserved unserved (program_part K) o → FoundIn Unserved unserved r o
            → StoresTyped K (elim o [ Some g ↦ served K k (Some g) r w | None ↦ served K k (choose Unserved unserved new) new w ])
        go (Some g) c x = served_typed k (Some g) r w c x h
        go None c x =
            served_typed k (choose Unserved unserved new) new w (choice_fits K 0 Unserved unserved (leaves_fit K 0 0 new_round (round_fits K) t)) (choose_found Unserved unserved new) (leaves_typed new_round r w round_int round_ready h)
    idle_turn_typed k (Turning n f w) t h = h
    idle_turn_typed k (Between n r w) t h = h
    idle_turn_typed k (Ended x w) t h = h
    idle_turn_typed k (Faulted e w) t h = h

    idle_turns_typed : (k j : ℕ) (c : Config) → ConfigFits K c → StoresTyped K c → StoresTyped K (idle_turns K k j c)
    idle_turns_typed k zero c t h = h
    idle_turns_typed k (suc j) c t h = idle_turns_typed k j (idle_turn K k c) (idle_turn_fits K proper k c t) (idle_turn_typed k c t h)

    pub done_typed : (k : ℕ) (x : Command) (c : Config) → ConfigFits K c → CommandTyped K x → StoresTyped K c → StoresTyped K (done K k x c)
    unfolding done
    done_typed k (Input event v) c t q h = input_typed k event v c q t h
    done_typed k (Advance us) c t q h = advance_typed k (us + 1) us c t h
    done_typed k (Idle j) c t q h = idle_turns_typed k j c t h

    all_typed_done : (k : ℕ) (xs : List Command) (c : Config) → ConfigFits K c → all_commands_typed K xs → StoresTyped K c
        → StoresTyped K (all_done K k xs c)
    unfolding all_done
    all_typed_done k [] c t q h = h
    all_typed_done k (x ∷ xs) c t q h = all_typed_done k xs (done K k x c) (done_fits K proper k x c t) q.1 (done_typed k x c t q.0 h)

    pub run_typed : (k : ℕ) (xs : List Command) → all_commands_typed K xs → StoresTyped K (booted K) → StoresTyped K (run K k xs)
    unfolding run
    run_typed k xs q h = all_typed_done k xs (steps K k (booted K)) (steps_fit K proper k (booted K) (booted_fits K proper)) q (steps_typed K proper k (booted K) (booted_fits K proper) h)
