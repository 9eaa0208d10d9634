-- The trail of an async that is served closes and aborts what reads no variable without a value, and so does the abortion of all that is left after a fault.
use Rattle.std.proofs.Common.{◌≡◌, refl, ◌≤◌, ◌<◌, ℕ, zero, suc, ◌+◌, Bool, true, false, ◌⊎◌, inl, inr, Option, arith}
use Rattle.std.proofs.lemmas.Bool.{cases_lt, false≢true}
use Rattle.ceu_base.specs.declared.kinds.Mark.TheVariants as mark
use Rattle.ceu_base.specs.declared.kinds.Pos.{Pos}
use Rattle.ceu_base.specs.declared.kinds.Fault.{Fault}
use Rattle.ceu_tree.specs.declared.kernel.Kernel.{Kernel}
use Rattle.ceu_tree.specs.declared.kernel.KBlock.{KBlock}
use Rattle.ceu_tree.specs.declared.kernel.KStmt.{out-KStmt}
use Rattle.ceu_tree.specs.declared.kernel.KStmt.TheOpen.{KStmt-F}
use Rattle.ceu_tree.specs.Residual.{Body, Program, Act, Residual, Over, InAsync}
use Rattle.ceu_tree.specs.Focus.{Frame, Focus, Here, In, fill, plug, leaf, body_in, body_of}
use Rattle.ceu_tree.specs.World.{World, NotSet, marked, set_alias}
use Rattle.ceu_tree.specs.Wake.{Unserved}
use Rattle.ceu_tree.specs.Leaf as does
use Rattle.ceu_tree.specs.Leaf.{Does, acted}
use Rattle.ceu_tree.specs.Around.{Outcome, Goes, Rests, Raises, Fails, Past, Registers, AtBlockEnd, AtLoopHead, Ends, Leaves}
use Rattle.ceu_tree.specs.Step.{unseat, killed, stepped}
use Rattle.ceu_tree.specs.Legal.{Seated}
use Rattle.ceu_tree.specs.Run.{is_again}
use Rattle.ceu_tree.specs.Proper.{Scope, is_proper}
use Rattle.laws_meaning_basics.specs.Shape.{Part, ABlock, AStatement, in_trail, async_scope, program_part, FrameFits, Around, one_around, TurnFits, Comes}
use Rattle.laws_meaning_basics.proofs.UpFits.{Sound, layer_of}
use Rattle.laws_meaning_basics.proofs.StepFits.{Closed, around_sound, around_trail, unseated_around, stepped_fits}
use Rattle.laws_meaning_basics.proofs.RunFits.{root_sound}
use Rattle.laws_meaning_values.specs.Ground.{has}
use Rattle.laws_meaning_values.proofs.Grounds.{program_ground, inner_ground}
use Rattle.laws_meaning_slots.proofs.Seats.{focus_seats}
use Rattle.laws_meaning_instances.proofs.Lists.{Counts}
use Rattle.laws_meaning_instances.proofs.Trees.{live_focus}
use Rattle.laws_meaning_instances.proofs.Reactions.{counts_moved}
use Rattle.laws_meaning_instances.proofs.Up.{left_whole}
use Rattle.laws_meaning_instances.proofs.Rooms.{Room, acted_room}
use Rattle.laws_meaning_instances.proofs.Steps.{SpawnFine, stepped_moves as living_moves}
use Rattle.laws_meaning_counters.specs.Counters.{is_first, at_loop}
use Rattle.laws_meaning_counters.proofs.Grips.{point}
use Rattle.laws_meaning_counters.proofs.Bodies.{cap_inner}
use Rattle.laws_meaning_counters.proofs.Reactions.{program_most}
use Rattle.laws_meaning_assigned.specs.Needed.{act_needed, focus_needed}
use Rattle.laws_meaning_assigned.proofs.Grips.{grip, focus_grip, over_grip, unseat_less}
use Rattle.laws_meaning_assigned.proofs.Trees.{unseat_needed}
use Rattle.laws_meaning_assigned.proofs.Places.{known_program, root_ground, around_known}
use Rattle.laws_meaning_assigned.proofs.Bounds.{around_within}
use Rattle.laws_meaning_assigned.proofs.Settled.{focus_unneeded}
use Rattle.laws_meaning_assigned.proofs.Aborts.{killed_spared}
use Rattle.laws_meaning_assigned.proofs.Leaf.{alias_keeps, acted_fine}
use Rattle.laws_meaning_assigned.proofs.Up.{outcome_needed, Steps}
use Rattle.laws_meaning_assigned.proofs.Steps.{stepped_moves}
use Rattle.laws_meaning_finalizers.specs.Closing.{aborted_reads, up_reads, killed_reads, if_reads, step_reads, serve_reads}
use Rattle.laws_meaning_finalizers.proofs.Envs.{SeatSet, Named, Env, named_async, env_async}
use Rattle.laws_meaning_finalizers.proofs.Trees.{Has}
use Rattle.laws_meaning_finalizers.proofs.Frames.{inner_hold, hold_less}
use Rattle.laws_meaning_finalizers.proofs.Fates.{Fate}
use Rattle.laws_meaning_finalizers.proofs.Does.{does_fine, does_aborts}
use Rattle.laws_meaning_finalizers.proofs.Apart.{focus_apart, part_abort, part_up, part_kill, leaf_hold, leaf_less, LeafPlace, leaf_place, leaf_abort}
use Rattle.laws_meaning_finalizers.proofs.Whole.{around, root_names, root_env}

abbrev pub later : Unserved → Bool
later y = false

-- the whole is In fr g, with an async at its leaf
module _ (K : Kernel) (proper : is_proper K ≡ true) (fr : Frame) (g : Focus Unserved) (top : Part) (sc : Scope) (c : KBlock) (a : FrameFits K 0 fr (program_part K) top) (more : Around K 0 Unserved g top (AStatement sc (leaf g).stmt))
    (layer : out-KStmt (leaf g).stmt.stmt ≡ KStmt-F.Async c) where
  abbrev root : Residual
  root = fill fr (plug g Over)

  abbrev P : Seated → Type 0
  P = SeatSet K proper root

  abbrev whole : Focus Unserved
  whole = In fr g

  abbrev at : Body
  at = body_of g (body_in fr Program)

  abbrev part : Part
  part = ABlock false (async_scope K sc) c

  abbrev hold : Body → ℕ → ℕ
  hold = leaf_hold K proper root g (body_in fr Program) (inner_hold K proper root fr Program (around K proper root))

  -- what needs the parts around the async
  abbrev Beside : World → Type 0
  Beside w = Has K proper root (λ b x. focus_needed K.codes b x later Program whole) w

  statement_sound : Sound K proper (AStatement sc (leaf g).stmt)
  statement_sound = around_sound K proper {A = Unserved} (one_around a more) (root_sound K proper)

  part_sound : Sound K proper part
  part_sound = (layer_of K proper sc (leaf g).stmt (KStmt-F.Async c) layer statement_sound).1

  apart : in_trail part → ⊥
  apart z = false≢true z

  hold_most : (b : Body) (x : ℕ) → hold b x ≤ point b x Program + focus_grip K.codes b x Program whole
  unfolding focus_grip
  hold_most b x = let i = leaf_less K proper root g (body_in fr Program) (inner_hold K proper root fr Program (around K proper root)) b x in let j = hold_less K proper root fr Program (around K proper root) b x in omega (arith, i, j)

  module _ (st : focus_seats P whole Program) where
    place : (w : World) → Beside w → LeafPlace K proper root later (AStatement sc (leaf g).stmt) at hold w
    unfolding focus_seats focus_needed
    place w h =
        leaf_place K proper root later g a more (root_sound K proper) Program (around K proper root) (root_names K proper root a (plug g Over) refl st.0) w (root_env K proper root a (plug g Over) refl (at_loop later g) w (λ b x l. h b x (omega (arith, l)))) refl
        (λ b x l. h b x (omega (arith, l))) (λ b x l. h b x (omega (arith, l))) st.1

    env_of : (w : World) → Beside w → Env K proper root part at hold w
    env_of w h = env_async K proper root sc (leaf g).stmt c at hold w layer (place w h).env

    named_of : (w : World) → Beside w → Named K proper root part
    named_of w h = named_async K proper root sc (leaf g).stmt c layer (place w h).named

    beside_unneeded : (b : Body) (x : ℕ) → point b x Program + focus_grip K.codes b x Program whole ≤ 2 → focus_needed K.codes b x later Program whole ≡ 0
    beside_unneeded b x l = focus_unneeded K proper b x later whole (program_part K) _ (one_around a more) (root_sound K proper) Program (root_ground K) (point b x Program) (program_ground K proper) (known_program K proper b x (point b x Program) (omega arith)) l

    -- what has no hold of the slots beside it keeps their values
    beside_kept : (n : Body → ℕ → ℕ) (w u : World) → ((b : Body) (x : ℕ) → (point b x Program + focus_grip K.codes b x Program whole) + n b x ≤ 3) → ((b : Body) (x : ℕ) → n b x ≡ 0 → has b x w ≡ true → has b x u ≡ true) → Beside w → Beside u
    beside_kept n w u most keep h b x l = go (cases_lt 2 (point b x Program + focus_grip K.codes b x Program whole))
      where
        go : (2 < point b x Program + focus_grip K.codes b x Program whole) ⊎ (point b x Program + focus_grip K.codes b x Program whole ≤ 2) → has b x u ≡ true
        go (inl y) = keep b x (let m = most b x in omega (arith, m, y)) (h b x l)
        go (inr y) = absurd (let z = beside_unneeded b x y in omega (arith, z, l))

    abbrev Left : Residual → World → Type 0
    Left r u = aborted_reads (fill fr (plug g (InAsync (leaf g).stmt true r))) Program u

    left_fine : (f : Focus Act) {e : Part} → Around K 1 Act f part e → ((b : Body) (x : ℕ) → (point b x Program + focus_grip K.codes b x Program whole) + focus_grip K.codes b x at f ≤ 3) → (w : World) → Has K proper root (λ b x. focus_needed K.codes b x is_first at f) w → Beside w
        → Left (plug f Over) w
    unfolding aborted_reads grip focus_grip focus_needed focus_seats
    left_fine f in_f most w own h =
        leaf_abort K proper root later (InAsync (leaf g).stmt true (plug f Over)) (λ b x. focus_needed K.codes b x is_first at f) g a more (root_sound K proper) Program (around K proper root) (root_names K proper root a (plug g Over) refl st.0) w
        (root_env K proper root a (plug g Over) refl (at_loop later g) w (λ b x l. h b x (omega (arith, l)))) refl (λ b x. (let m = most b x in let o = over_grip K.codes b x at f in omega (arith, m, o))) (λ b x l. h b x (omega (arith, l))) (λ b x l. h b x (omega (arith, l))) st.0 st.1 own
        (λ b x l. (let v = env_of w h in focus_unneeded K proper b x is_first f part _ in_f part_sound at v.ground (hold b x) v.on (v.known b x) (let o = over_grip K.codes b x at f in omega (arith, l, o))))
        (λ u env k. part_abort K proper root part_sound (named_of w h) at hold u (env_async K proper root sc (leaf g).stmt c at hold u layer env) f in_f (λ b x. (let m = most b x in let i = hold_most b x in omega (arith, m, i))) k (focus_apart K proper root f in_f part_sound apart at))

    module _ (f : Focus Act) (t : TurnFits K 1 part f) (most : (b : Body) (x : ℕ) → (point b x Program + focus_grip K.codes b x Program whole) + focus_grip K.codes b x at f ≤ 3) where
      abbrev Own : World → Type 0
      Own w = Has K proper root (λ b x. focus_needed K.codes b x is_first at f) w

      abbrev Good : World → Type 0
      Good w = Own w × Beside w

      alias_good : (alias : Option ℕ) (w : World) → Good w → Good (marked mark.Full (set_alias (body_of f at) alias NotSet w))
      alias_good alias w h = (λ b x l. alias_keeps b x (body_of f at) alias NotSet w (h.0 b x l), λ b x l. alias_keeps b x (body_of f at) alias NotSet w (h.1 b x l))

      in_most : (b : Body) (x : ℕ) → hold b x + focus_grip K.codes b x at f ≤ 3
      in_most b x = let m = most b x in let i = hold_most b x in omega (arith, m, i)

      up_of : (w : World) → Good w → (y : Outcome) → ((q : Act) → Fate (Here q) w y w) → up_reads at f y w
      up_of w h y fate = part_up K proper root part_sound (named_of w h.1) at hold w (env_of w h.1) f t.around in_most h.0 (focus_apart K proper root f t.around part_sound apart at) y fate

      kill_of : (k : ℕ) (w : World) → Good w → killed_reads k f w
      kill_of k w h = part_kill K proper root part_sound (named_of w h.1) at hold w (env_of w h.1) f t.around in_most h.0 (focus_apart K proper root f t.around part_sound apart at) k

      unseat_most : (k : ℕ) (b : Body) (x : ℕ) → (point b x Program + focus_grip K.codes b x Program whole) + focus_grip K.codes b x at (unseat k f) ≤ 3
      unseat_most k b x = let less = unseat_less K.codes b x k at f in let m = most b x in omega (arith, less, m)

      unseat_own : (k : ℕ) (w : World) → Good w → Has K proper root (λ b x. focus_needed K.codes b x is_first at (unseat k f)) (killed k f w)
      unseat_own k w h b x l = after (cases_lt 2 (hold b x + focus_grip K.codes b x at (unseat k f)))
        where
          after : (2 < hold b x + focus_grip K.codes b x at (unseat k f)) ⊎ (hold b x + focus_grip K.codes b x at (unseat k f) ≤ 2) → has b x (killed k f w) ≡ true
          after (inl y) = killed_spared K.codes b x k at f w (let less = unseat_less K.codes b x k at f in let m = in_most b x in omega (arith, less, m, y)) (h.0 b x (let less = unseat_needed K.codes b x k at f in omega (arith, less, l)))
          after (inr y) = absurd (let v = env_of w h.1 in let z = focus_unneeded K proper b x is_first (unseat k f) part t.part (unseated_around K proper 1 k t.around) part_sound at v.ground (hold b x) v.on (v.known b x) y in omega (arith, z, l))

      unseat_beside : (k : ℕ) (w : World) → Good w → Beside (killed k f w)
      unseat_beside k w h = beside_kept (λ b x. focus_grip K.codes b x at f) w (killed k f w) most (λ b x z v. killed_spared K.codes b x k at f w (let less = unseat_less K.codes b x k at f in omega (arith, less, z)) v) h.1

      up_killed : (k : ℕ) (w : World) → Good w → up_reads at (unseat k f) Past (killed k f w)
      up_killed k w h =
          part_up K proper root part_sound (named_of w h.1) at hold (killed k f w) (env_of (killed k f w) (unseat_beside k w h)) (unseat k f) (unseated_around K proper 1 k t.around) (λ b x. (let m = unseat_most k b x in let i = hold_most b x in omega (arith, m, i)))
          (unseat_own k w h) (focus_apart K proper root (unseat k f) (unseated_around K proper 1 k t.around) part_sound apart at) Past (λ q. tt)

      acted_good : (w : World) → Beside w → ((b : Body) (x : ℕ) → 1 ≤ focus_needed K.codes b x is_first at f + act_needed K.codes b x (body_of f at) (leaf f) → has b x w ≡ true) → Good (acted K 0 (body_of f at) (leaf f) w).world
      acted_good w h own = (λ b x l. keeps b x (own b x (omega (arith, l))), λ b x l. keeps b x (h b x l))
        where
          keeps : (b : Body) (x : ℕ) → has b x w ≡ true → has b x (acted K 0 (body_of f at) (leaf f) w).world ≡ true
          keeps b x =
              let v = env_of w h in
              let i = around_known K proper b x f part t.part t.around at v.ground (hold b x) v.on (v.known b x) in
              (acted_fine K proper b x 0 (body_of f at) t.part i.ground (hold b x + focus_grip K.codes b x at f) (leaf f) w i.known (around_sound K proper t.around part_sound) t.acts (λ u. own b x (omega (arith, u)))).keeps

      pub record StepReads (w : World) : Type 0 where
        pub step : step_reads K 0 at f w
        pub fault : (z : Fault × Pos) (r : Residual) → (stepped K 0 at f w).outcome ≡ Fails z r → Left r (stepped K 0 at f w).world

      step_of : (w : World) → Beside w → ((b : Body) (x : ℕ) → 1 ≤ focus_needed K.codes b x is_first at f + act_needed K.codes b x (body_of f at) (leaf f) → has b x w ≡ true) → StepReads w
      unfolding step_reads stepped
      step_of w h own =
          let d = acted K 0 (body_of f at) (leaf f) w in
          let abort_of : (u : World) → Good u → Left (plug f Over) u = λ u z. left_fine f t.around most u z.0 z.1 in
          let abort_killed : (k : ℕ) (u : World) → Good u → Left (plug (unseat k f) Over) (killed k f u) = λ k u z. left_fine (unseat k f) (unseated_around K proper 1 k t.around) (unseat_most k) (killed k f u) (unseat_own k u z) (unseat_beside k u z) in
          record {
            step = does_fine K 0 at f Good alias_good Left up_of abort_of kill_of up_killed abort_killed d.does d.world (acted_good w h own);
            fault = does_aborts K 0 at f Good alias_good Left up_of abort_of kill_of up_killed abort_killed d.does d.world (acted_good w h own);
          }

    -- ---- the trail, step by step

    apart_fine : {e : Part} (f : Focus Act) (y : Does) → Around K 1 Act f part e → Room K proper e y → SpawnFine f y
    apart_fine f (does.Spawns s k code pool alias vs) i r = absurd (apart (around_trail K proper i part_sound r.0))
    apart_fine f (does.Opens y) i r = tt
    apart_fine f (does.Waits y) i r = tt
    apart_fine f does.Passes i r = tt
    apart_fine f (does.Leaves node y) i r = tt
    apart_fine f (does.Registers s) i r = tt
    apart_fine f does.Ends i r = tt
    apart_fine f does.Heads i r = tt
    apart_fine f (does.Emits s event v) i r = tt
    apart_fine f (does.Kills k) i r = tt
    apart_fine f (does.Fails e) i r = tt

    abbrev Trail : Focus Act → World → Type 0
    Trail f w = Counts (λ p. live_focus p f + live_focus p whole) w

    -- the slots are held once, of the async and of what is around it
    trail_most : (f : Focus Act) (w : World) → TurnFits K 1 part f → Trail f w → (b : Body) (x : ℕ) → (point b x Program + focus_grip K.codes b x Program whole) + focus_grip K.codes b x at f ≤ 3
    trail_most f w t h b x =
        let j = around_within K proper b x whole (program_part K) _ (one_around a more) Program (root_ground K) (program_ground K proper) in
        let i = inner_ground (leaf g).stmt (KStmt-F.Async c) j.ground layer j.on in
        let z = around_within K proper b x f part t.part t.around at i.ground i.on in
        let n = cap_inner b x at i.ground j.ground i.inner in
        let l = program_most b x (λ p. live_focus p f + live_focus p whole) w (root_ground K) h in
        let jb = j.bound in
        let zb = z.bound in
        omega (arith, jb, zb, n, l)

    abbrev After : ℕ → Outcome → World → Type 0
    After k y u = elim y [
      | Goes h ↦ if_reads (is_again (leaf h)) (Unit {0}) (serve_reads K k whole h u)
      | Fails e r ↦ aborted_reads (plug whole (InAsync (leaf whole).stmt true r)) Program u
      | _ ↦ Unit {0}
    ]

    pub serve_fine : (k : ℕ) (f : Focus Act) (w : World) → TurnFits K 1 part f → Trail f w → Beside w → ((b : Body) (x : ℕ) → 1 ≤ focus_needed K.codes b x is_first at f + act_needed K.codes b x (body_of f at) (leaf f) → has b x w ≡ true) → serve_reads K k whole f w
    unfolding serve_reads
    serve_fine zero f w t h bs own = tt
    serve_fine (suc k) f w t h bs own = (
      step.step,
      go (stepped K 0 at f w).outcome (stepped_fits K proper 0 at f w part closed part_sound t)
          (counts_moved (λ p. live_focus p f) (λ p. left_whole p (stepped K 0 at f w).outcome) (λ p. live_focus p whole) w u (living_moves K 0 at f w (apart_fine f (acted K 0 (body_of f at) (leaf f) w).does t.around (acted_room K proper 0 (body_of f at) t.part (leaf f) w (around_sound K proper t.around part_sound) t.acts))) h)
          (λ b x. (moves b x).stocked) (λ z r e. step.fault z r e) (λ y t2 h2 own2. serve_fine k y u t2 h2 next own2),
    )
      where
        u : World
        u = (stepped K 0 at f w).world

        most : (b : Body) (x : ℕ) → (point b x Program + focus_grip K.codes b x Program whole) + focus_grip K.codes b x at f ≤ 3
        most = trail_most f w t h

        closed : Closed K proper part
        closed node z y = false≢true z

        step : StepReads f t most w
        step = step_of f t most w bs own

        moves : (b : Body) (x : ℕ) → Steps K proper b x 0 at (focus_grip K.codes b x at f) w (stepped K 0 at f w)
        moves b x = let v = env_of w bs in stepped_moves K proper b x 0 at f w part v.ground (hold b x) closed t part_sound v.on (v.known b x) (let m = most b x in let i = hold_most b x in omega (arith, m, i)) (own b x)

        next : Beside u
        next = beside_kept (λ b x. focus_grip K.codes b x at f) w u most (λ b x z v. (moves b x).kept z v) bs

        go : (y : Outcome) → Comes K 0 part y → Counts (λ p. left_whole p y + live_focus p whole) u → ((b : Body) (x : ℕ) → 1 ≤ outcome_needed K proper b x 0 at y → has b x u ≡ true) → ((z : Fault × Pos) (r : Residual) → y ≡ Fails z r → Left r u)
            → ((y : Focus Act) → TurnFits K 1 part y → Trail y u → ((b : Body) (x : ℕ) → 1 ≤ focus_needed K.codes b x is_first at y + act_needed K.codes b x (body_of y at) (leaf y) → has b x u ≡ true) → serve_reads K k whole y u) → After k y u
        go (Goes z) t2 h2 own2 fault ih = inner (is_again (leaf z))
          where
            inner : (q : Bool) → if_reads q (Unit {0}) (serve_reads K k whole z u)
            inner true = tt
            inner false = ih z t2 h2 own2
        go (Fails z r) t2 h2 own2 fault ih = fault z r refl
        go (Rests r) t2 h2 own2 fault ih = tt
        go (Raises r) t2 h2 own2 fault ih = tt
        go (Ends v) t2 h2 own2 fault ih = tt
        go Past t2 h2 own2 fault ih = tt
        go (Registers q) t2 h2 own2 fault ih = tt
        go AtBlockEnd t2 h2 own2 fault ih = tt
        go AtLoopHead t2 h2 own2 fault ih = tt
        go (Leaves node z) t2 h2 own2 fault ih = tt
