-- One step of a trail keeps stores well-typed.
use Rattle.std.proofs.Common.{◌≡◌, refl, sym, subst, ℕ, suc, ◌+◌, ℤ, pos, Bool, true, false, if◌then◌else◌, ◌==◌, List, [], ◌∷◌, Option, Some, None, eqb-true}
use Rattle.ceu_base.specs.declared.kinds.Mark.TheVariants as mark
use Rattle.ceu_base.specs.Values.{IsValue}
use Rattle.ceu_tree.specs.declared.kernel.Kernel.{Kernel}
use Rattle.ceu_tree.specs.declared.kernel.KCode.{KCode}
use Rattle.ceu_tree.specs.declared.kernel.KEvent.{KEvent}
use Rattle.ceu_tree.specs.declared.kernel.KNode.{KNode}
use Rattle.ceu_tree.specs.Residual.{Body, Spawned as InstanceBody, Act, Begin, Finish, Residual, Run, WaitEvent, Instances, no_instance, instance}
use Rattle.ceu_tree.specs.Focus.{Frame, OfBlock, OfInstance, OfOpen, OfLoop, OfCall, OfPar, Focus, Here, In, leaf, body_of}
use Rattle.ceu_tree.specs.World.{World, NotSet, Names, marked, set_alias, dead}
use Rattle.ceu_tree.specs.Abort.{aborted}
use Rattle.ceu_tree.specs.Wake.{by_event}
use Rattle.ceu_tree.specs.Leaf as does
use Rattle.ceu_tree.specs.Leaf.{Does, target, acted, code_at}
use Rattle.ceu_tree.specs.Around.{Outcome, Goes, Rests, Raises, Fails, Past, Registers, AtBlockEnd, AtLoopHead, Ends, Leaves, Moved, up, taken, answered}
use Rattle.ceu_tree.specs.Step.{event_code, free_place, spawned_at, spawned, unseated, unseat_frame, unseat, killed_in, kill_frame, killed, does_in, stepped}
use Rattle.ceu_tree.specs.Proper.{Scope, event_at, is_proper}
use Rattle.laws_meaning_basics.specs.Shape.{Part, ABlock, AStatement, AnEnd, AllFit, none_lives, one_lives, FrameFits, around_statement, around_end, around_instance, around_part, around_turn, around_call, around_branch, Around, nothing_around, one_around, TurnFits, Comes}
use Rattle.laws_meaning_basics.proofs.Static.{code_static}
use Rattle.laws_meaning_basics.proofs.UpFits.{Sound, up_fits}
use Rattle.laws_meaning_basics.proofs.LeafFits.{DoesFit, acted_fits}
use Rattle.laws_meaning_basics.proofs.StepFits.{Closed, around_sound, unseated_around}
use Rattle.laws_meaning_slots.specs.Declared.{inner_pools}
use Rattle.laws_meaning_slots.proofs.Aims.{Inside}
use Rattle.laws_meaning_slots.proofs.Known.{Known, params_known, code_known, around_known}
use Rattle.laws_meaning_slots.proofs.Typing.{AllTyped, dead_typed, aborted_typed}
use Rattle.laws_meaning_counters.specs.Counters.{is_first, at_loop}
use Rattle.laws_meaning_counters.specs.Ints.{all_int, frame_int, focus_int}
use Rattle.laws_meaning_counters.proofs.CountersSteps.{pausing_past}
use Rattle.laws_meaning_types.specs.Ready.{act_ready, tree_ready, frames_ready}
use Rattle.laws_meaning_types.proofs.Trees.{graft_leaf, plugged, grafted, woken_ready, seated_ready, unseat_ready}
use Rattle.laws_meaning_types.proofs.Values.{takes_zero, Given, aliases_typed, params_typed}
use Rattle.laws_meaning_types.proofs.Aborts.{Gone}
use Rattle.laws_meaning_types.proofs.Exits.{Suits, up_good}
use Rattle.laws_meaning_types.proofs.Leaf.{DoesSuit, acted_good}

-- ---- ranges, where an instance is gone

unseated_int : (n : ℕ) (all : Instances) → all_int all → all_int (unseated n all)
unfolding all_int
unseated_int n no_instance h = tt
unseated_int n (instance seat r more) h = go (seat.number == n) (unseated_int n more h.1)
  where
    go : (b : Bool) → all_int (unseated n more) → all_int (if b then more else instance seat r (unseated n more))
    go true x = h.1
    go false x = (h.0, x)

unseat_frame_int : (t : Bool) (n : ℕ) (fr : Frame) → frame_int t fr → frame_int t (unseat_frame n fr)
unseat_frame_int t n (OfBlock b fin all rest) k = unseated_int n all k
unseat_frame_int t n (OfInstance b fin front other back q rest) k = k
unseat_frame_int t n (OfOpen s) k = k
unseat_frame_int t n (OfLoop s c) k = k
unseat_frame_int t n (OfCall s) k = k
unseat_frame_int t n (OfPar s front back) k = k

unseat_flag : (n : ℕ) (f : Focus Act) → at_loop is_first (unseat n f) ≡ at_loop is_first f
unseat_flag n (Here a) = refl
unseat_flag n (In fr f) = refl

unseat_fine : (n : ℕ) (f : Focus Act) → focus_int f → focus_int (unseat n f)
unfolding focus_int
unseat_fine n (Here a) h = tt
unseat_fine n (In fr f) h = (subst (λ t. frame_int t (unseat_frame n fr)) (sym (unseat_flag n f)) (unseat_frame_int (at_loop is_first f) n fr h.0), unseat_fine n f h.1)

module _ (K : Kernel) where
  -- what a step makes of the whole is ready to go on
  abbrev pub outcome_ready : Outcome → Type 0
  outcome_ready (Goes g) = frames_ready K g × act_ready (leaf g)
  outcome_ready (Rests r) = tree_ready K r
  outcome_ready (Raises r) = tree_ready K r
  outcome_ready x = Unit {0}

  by_event_ready : (level event : ℕ) (v : ℤ) → ((x : KEvent) → event_at K event K.events ≡ Some x → IsValue x.ty v) → (r : Residual)
      → tree_ready K r → tree_ready K (by_event level event v r)
  unfolding tree_ready
  by_event_ready level event v h (WaitEvent e s) k = go (e == event) refl
    where
      go : (b : Bool) → (e == event) ≡ b → tree_ready K (if b then Run level (Finish s v) else WaitEvent e s)
      go true q = k.2 v (h k.0 (subst (λ j. event_at K j K.events ≡ Some k.0) (eqb-true e event q) k.1))
      go false q = k
  by_event_ready level event v h r k = k

  module _ (proper : is_proper K ≡ true) where
    pub record Whole (m : Moved) : Type 0 where
      pub ready : outcome_ready m.outcome
      pub typed : AllTyped K proper m.world

    taken_ready : (n : ℕ) (f : Focus Act) (x : Outcome) (d : Part) → Closed K proper d → Comes K n d x → Suits K proper d x
        → outcome_ready (taken f x)
    taken_ready n f (Goes g) (ABlock false sc c) q k h = h
    taken_ready n f (Rests r) (ABlock false sc c) q k h = h
    taken_ready n f (Raises r) (ABlock false sc c) q k h = h
    taken_ready n f (Fails z r) (ABlock false sc c) q k h = tt
    taken_ready n f (Ends v) (ABlock false sc c) q k h = tt
    taken_ready n f (Leaves node z) (ABlock false sc c) q k h = absurd (q node k.0 k.1)
    taken_ready n f x (ABlock false sc c) q k h = elim k [ ]
    taken_ready n f x d q k h = elim q [ ]

    -- ---- a kill

    killed_in_typed : {t : ℕ} {sc : Scope} {all : Instances} (k : ℕ) → AllFit K t sc all → Gone K proper (killed_in k all)
    killed_in_typed k none_lives w x = x
    killed_in_typed k (one_lives {seat = seat} {r = r} {more = more} i p e fit rest) w x = go (seat.number == k) refl (killed_in_typed k rest w x)
      where
        go : (b : Bool) → (seat.number == k) ≡ b → AllTyped K proper (killed_in k more w)
            → AllTyped K proper (if b then dead k (aborted r (InstanceBody k) w) else killed_in k more w)
        go true q y = dead_typed K proper k (aborted r (InstanceBody k) w) (aborted_typed K proper fit (code_static K seat.code i proper e) (code_known K proper seat.code i e) (InstanceBody k) w x)
        go false q y = y

    kill_frame_typed : {t : ℕ} {fr : Frame} {d e : Part} (k : ℕ) → FrameFits K t fr d e → Gone K proper (kill_frame k fr)
    kill_frame_typed k (around_statement done e f fit) w x = killed_in_typed k fit w x
    kill_frame_typed k (around_end f fit) w x = killed_in_typed k fit w x
    kill_frame_typed k (around_instance done i e f r y z p q) w x = x
    kill_frame_typed k (around_part b e) w x = x
    kill_frame_typed k (around_turn i b e q) w x = x
    kill_frame_typed k (around_call i es f t a e q) w x = x
    kill_frame_typed k (around_branch i slot bs b cs e y z) w x = x

    killed_typed : {t : ℕ} {f : Focus Act} {d e : Part} (k : ℕ) → Around K t Act f d e → Gone K proper (killed k f)
    killed_typed k nothing_around w x = x
    killed_typed {f = In fr f} k (one_around a more) w x = killed_typed k more (kill_frame k fr w) (kill_frame_typed k a w x)

    -- ---- a step

    no_suit : (e : Part) → Suits K proper e Past
    no_suit (ABlock turn sc b) = tt
    no_suit (AStatement sc s) = tt
    no_suit AnEnd = tt

    registers_suit : (e : Part) (q : KNode) → Suits K proper e (Registers q)
    registers_suit (ABlock turn sc b) q = tt
    registers_suit (AStatement sc s) q = tt
    registers_suit AnEnd q = tt

    end_suit : (e : Part) → Suits K proper e AtBlockEnd
    end_suit (ABlock turn sc b) = tt
    end_suit (AStatement sc s) = tt
    end_suit AnEnd = tt

    head_suit : (e : Part) → Suits K proper e AtLoopHead
    head_suit (ABlock turn sc b) = tt
    head_suit (AStatement sc s) = tt
    head_suit AnEnd = tt

    module _ (n : ℕ) (root : Body) (d : Part) (closed : Closed K proper d) (ok : Sound K proper d) (known : Known K proper d) (inside : Inside d) where
      answered_whole : {e : Part} (f : Focus Act) (x : Outcome) (w : World) → Around K (suc n) Act f d e → Comes K n e x → Suits K proper e x
          → frames_ready K f → focus_int f → AllTyped K proper w
          → Whole (answered root f x w)
      answered_whole {e = e} f x w a c s r t y =
          let m = up root f x w in
          let z = up_good K proper n a ok known inside x root w c s r t y in
          record { ready = taken_ready n f m.outcome d closed (up_fits K proper n root f x w d e ok a c) z.suits; typed = z.typed }

      module _ (e : Part) (f : Focus Act) (a : Around K (suc n) Act f d e) (r : frames_ready K f) (t : focus_int f) where
        spawned_whole : (body : Body) (s : KNode) (c : KCode) (code pool : ℕ) (alias : Option ℕ) (vs : List ℤ) (w : World) → Comes K n e Past
            → Suits K proper e Past → code_at code K.codes ≡ Some c → Given c.params vs
            → AllTyped K proper w → Whole (spawned n root body f s c code pool alias vs w)
        unfolding tree_ready
        spawned_whole body s c code pool alias vs w past su there g y = go (free_place pool f)
          where
            either : (b : Bool) (x z : Moved) → Whole x → Whole z → Whole (if b then x else z)
            either true x z h k = h
            either false x z h k = k

            go : (o : Option ℕ) → Whole (elim o [
              | None ↦ answered root f Past (marked mark.Full (set_alias body alias NotSet w))
              | Some place ↦ spawned_at n body f s c code pool place alias vs w
            ])
            go None = answered_whole f Past _ a past su r t (aliases_typed K proper body alias NotSet w tt y)
            go (Some place) = either (w.given == 4294967295) _ _ (record { ready = tt; typed = y }) (record {
              ready = plugged K _ _ (seated_ready K (record { pool = pool; place = place; code = code; number = w.given + 1 }) (Run (n + 1) (Begin c.body)) f tt r) (takes_zero (target s));
              typed =
                  params_typed K proper (inner_pools [] c.params) (InstanceBody (w.given + 1)) c.params vs _ (params_known K proper code c there) g
                  (aliases_typed K proper body alias (Names (w.given + 1)) (record w { given = w.given + 1; living = (w.given + 1) ∷ w.living }) tt y);
            })

        does_whole : (body : Body) (x : Does) (w : World) → DoesFit K proper n e x → DoesSuit K proper e x → AllTyped K proper w
            → Whole (does_in K n root body f x w)
        unfolding tree_ready
        does_whole body (does.Opens x) w c s y = record { ready = (grafted K f x r s.0, subst act_ready (sym (graft_leaf f x)) s.1); typed = y }
        does_whole body (does.Waits q) w c s y = record { ready = plugged K f q r s; typed = y }
        does_whole body does.Passes w c s y = answered_whole f Past w a c (no_suit e) r t y
        does_whole body (does.Leaves node x) w c s y = answered_whole f (Leaves node x) w a c s r t y
        does_whole body (does.Registers q) w c s y = answered_whole f (Registers q) w a c (registers_suit e q) r t y
        does_whole body does.Ends w c s y = answered_whole f AtBlockEnd w a c (end_suit e) r t y
        does_whole body does.Heads w c s y = answered_whole f AtLoopHead w a c (head_suit e) r t y
        does_whole body (does.Emits q event v) w c s y =
            record { ready = woken_ready K (by_event (n + 1) event v) (by_event_ready (n + 1) event v s) (event_code event K.events) f (Run n (Finish q (pos 0))) r (takes_zero (target q)); typed = y }
        does_whole body (does.Spawns q m code pool alias vs) w c s y = spawned_whole body q m code pool alias vs w (pausing_past K proper n c.0) (no_suit e) c.1 s y
        does_whole body (does.Kills j) w c s y =
            answered_whole (unseat j f) Past (killed j f w) (unseated_around K proper (suc n) j a) c (no_suit e) (unseat_ready K j f r) (unseat_fine j f t) (killed_typed j a w y)
        does_whole body (does.Fails z) w c s y = record { ready = tt; typed = y }

      pub stepped_whole : (f : Focus Act) (w : World) → TurnFits K (suc n) d f → frames_ready K f → act_ready (leaf f) → focus_int f
          → AllTyped K proper w → Whole (stepped K n root f w)
      unfolding stepped
      stepped_whole f w z r l t y =
          let m = acted K n (body_of f root) (leaf f) w in
          let ok1 = around_sound K proper z.around ok in
          let g = acted_good K proper (body_of f root) w y n z.part (leaf f) ok1 (around_known K proper z.around known) z.acts l in
          does_whole z.part f z.around r t (body_of f root) m.does m.world (acted_fits K proper n (body_of f root) z.part (leaf f) w ok1 z.acts) g.suits g.typed
