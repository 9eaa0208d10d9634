-- Commands and runs of a proper kernel leave a value to each slot that is needed.
use Rattle.std.proofs.Common.{◌≡◌, refl, ap, ◌∙◌, subst, ◌≤◌, ◌<◌, ℕ, zero, suc, ◌+◌, ◌-◌, ◌*◌, ℤ, pos, nat_le, Bool, true, false, ◌⊎◌, inl, inr, List, [], ◌∷◌, Option, Some, None, arith}
use Rattle.std.proofs.lemmas.Bool.{cases_lt, false≢true}
use Rattle.ceu_tree.specs.declared.command.Command.{Command}
use Rattle.ceu_tree.specs.declared.command.Command.TheVariants.{Input, Advance, Idle}
use Rattle.ceu_tree.specs.declared.kernel.Kernel.{Kernel}
use Rattle.ceu_tree.specs.declared.kernel.KBlock.{KBlock}
use Rattle.ceu_tree.specs.declared.kernel.KStmt.{out-KStmt}
use Rattle.ceu_tree.specs.declared.kernel.KStmt.TheOpen.{KStmt-F}
use Rattle.ceu_tree.specs.Residual.{Body, Program, Act, Begin, Start, Finish, AtEnd, AtHead, Again, Residual, Run, InAsync}
use Rattle.ceu_tree.specs.Focus.{Focus, plug, leaf, body_of, choose}
use Rattle.ceu_tree.specs.World.{World}
use Rattle.ceu_tree.specs.Wake.{each_leaf, leaves, runs_at, by_input, later, by_time, least_time, Unserved, unserved, new_round}
use Rattle.ceu_tree.specs.Leaf as does
use Rattle.ceu_tree.specs.Leaf.{Does, acted}
use Rattle.ceu_tree.specs.Around.{Outcome, Goes, Rests, Raises, Fails, Past, Registers, AtBlockEnd, AtLoopHead, Ends, Leaves}
use Rattle.ceu_tree.specs.Step.{stepped}
use Rattle.ceu_tree.specs.Proper.{Scope, is_proper}
use Rattle.ceu_tree.specs.Run.{Config, Turning, Between, Waiting, Ended, Faulted, steps, booted, reacts, input, advance, is_again, Served, Unfinished, Turned, Done, Failed, serve, serve_first, after_serving, served, idle_turn, idle_turns, done, all_done, run}
use Rattle.laws_meaning_basics.proofs.FocusBalance.{FoundIn, choose_found}
use Rattle.laws_meaning_basics.specs.Shape.{Part, ABlock, AStatement, program_part, async_scope, pauses, Fits, to_finish, Around, TurnFits, in_trail, Comes, ConfigFits}
use Rattle.laws_meaning_basics.proofs.Fits.{around_raised, plug_fits}
use Rattle.laws_meaning_basics.proofs.Leaves.{leaves_fit, by_input_fits, by_time_fits, later_fits, round_fits}
use Rattle.laws_meaning_basics.proofs.Choice.{ChoiceFits, choice_fits}
use Rattle.laws_meaning_basics.proofs.UpFits.{Sound, layer_of}
use Rattle.laws_meaning_basics.proofs.StepFits.{Closed, around_sound, around_trail, stepped_fits}
use Rattle.laws_meaning_basics.proofs.RunFits.{root_sound, turn_of_chosen, steps_fit, booted_fits, async_leaf, idle_turn_fits, done_fits}
use Rattle.laws_meaning_values.specs.Ground.{has, Ground, On}
use Rattle.laws_meaning_counters.specs.Counters.{is_first}
use Rattle.laws_meaning_counters.proofs.Grips.{point}
use Rattle.laws_meaning_counters.proofs.Bodies.{root, cap, cap_inner}
use Rattle.laws_meaning_counters.proofs.Calms.{by_input_calm, by_time_calm, later_calm, round_calm, TreeCounts, leaves_counts, unserved_lives}
use Rattle.laws_meaning_counters.proofs.Reactions.{program_most}
use Rattle.laws_meaning_assigned.specs.Needed.{alias_of, asked, past_needed, act_needed, needed, focus_needed}
use Rattle.laws_meaning_assigned.proofs.Grips.{focus_grip}
use Rattle.laws_meaning_assigned.proofs.Trees.{plugged, unplugged, leaves_kept, by_input_same, by_time_same, later_same, round_same, unserved_needed}
use Rattle.laws_meaning_assigned.proofs.Places.{root_ground, KnownAt, known_async, known_program, around_known}
use Rattle.laws_meaning_assigned.proofs.Bounds.{around_within}
use Rattle.laws_meaning_assigned.proofs.Settled.{asked_zero, one_of, focus_unneeded}
use Rattle.laws_meaning_assigned.proofs.Up.{outcome_needed, Steps}
use Rattle.laws_meaning_assigned.proofs.Steps.{stepped_moves}
use Rattle.laws_meaning_assigned.proofs.Reactions.{OneStocked, picked_needed, steps_stocked}
use Rattle.ceu_tree.specs.Mentions.{is_slot}
use Rattle.ceu_tree.specs.declared.kernel.KNode.{KNode}
use Rattle.laws_meaning_values.proofs.Grounds.{inner_ground, program_ground}
use Rattle.laws_meaning_instances.proofs.Living.{lives}
use Rattle.laws_meaning_instances.specs.Instances.{pools_stand}
use Rattle.laws_meaning_instances.proofs.Trees.{live_focus, focus_stands, plug_lives, plugged as pools_plugged}
use Rattle.laws_meaning_instances.proofs.Up.{left_whole}
use Rattle.laws_meaning_instances.proofs.Rooms.{Room, acted_room}
use Rattle.laws_meaning_instances.proofs.Steps.{SpawnFine, stepped_moves as living_moves}
use Rattle.laws_meaning_instances.proofs.Lists.{Counts}
use Rattle.laws_meaning_instances.proofs.Reactions.{ConfigCounts, counts_same, counts_moved, chosen_lives, found_stands, steps_counts, booted_counts}
use Rattle.laws_meaning_instances.proofs.Commands.{done_counts}

again_later : (a : Act) → is_again a ≡ true → is_first a ≡ false
again_later Again e = refl
again_later AtHead e = absurd (false≢true e)
again_later (Begin c) e = refl
again_later (Start s) e = refl
again_later (Finish s v) e = refl
again_later AtEnd e = refl

module _ (K : Kernel) (proper : is_proper K ≡ true) (b : Body) (x : ℕ) where
  abbrev TreeStocked : Residual → World → Type 0
  TreeStocked r w = 1 ≤ needed K.codes b x Program r → has b x w ≡ true

  -- where leaves become others that need the same
  same_tree : (g : Residual → Residual) → ((here : Body) (r : Residual) → needed K.codes b x here (g r) ≡ needed K.codes b x here r) → (r : Residual) (w : World) → TreeStocked r w → TreeStocked (each_leaf g r) w
  same_tree g keeps r w st h = st (let z = leaves_kept K.codes b x g keeps Program r in omega (arith, z, h))

  reacts_stand : (m : ℕ) (r : Residual) (w : World) → Fits K 1 (program_part K) r → TreeCounts r w → TreeStocked r w → OneStocked K b x (reacts K m r w)
  reacts_stand m r w t h st = steps_stocked K proper b x m (Between 0 r w) t h st

  input_stands : (m event : ℕ) (v : ℤ) (c : Config) → ConfigFits K c → ConfigCounts c → OneStocked K b x c → OneStocked K b x (input K m event v c)
  input_stands m event v (Waiting r w) t h st =
      reacts_stand m (each_leaf (by_input event v) r) w (leaves_fit K 0 1 (by_input event v) (by_input_fits K event v) t) (leaves_counts (by_input event v) (by_input_calm event v) r w h)
      (same_tree (by_input event v) (by_input_same K.codes b x event v) r w st)
  input_stands m event v (Turning n f w) t h st = st
  input_stands m event v (Between n r w) t h st = st
  input_stands m event v (Ended y w) t h st = st
  input_stands m event v (Faulted e w) t h st = st

  later_stands : (d : ℕ) (r : Residual) (w : World) → TreeStocked r w → TreeStocked (each_leaf (later d) r) w
  later_stands d r w st = same_tree (later d) (later_same K.codes b x d) r w st

  advance_stands : (k j d : ℕ) (c : Config) → ConfigFits K c → ConfigCounts c → OneStocked K b x c → OneStocked K b x (advance K k j d c)
  unfolding advance
  advance_stands k zero d c t h st = st
  advance_stands k (suc j) d (Waiting r w) t h st = go (least_time (leaves r)) (λ m. advance_stands k j (d - m) (timed m) (timed_fits m) (timed_counts m) (timed_stands m))
    where
      timed : ℕ → Config
      timed m = reacts K k (each_leaf (by_time (d - m)) (each_leaf (later m) r)) w

      fits : (m : ℕ) → Fits K 1 (program_part K) (each_leaf (by_time (d - m)) (each_leaf (later m) r))
      fits m = leaves_fit K 0 1 (by_time (d - m)) (by_time_fits K (d - m)) (leaves_fit K 0 0 (later m) (later_fits K m) t)

      counts : (m : ℕ) → TreeCounts (each_leaf (by_time (d - m)) (each_leaf (later m) r)) w
      counts m = leaves_counts (by_time (d - m)) (by_time_calm (d - m)) (each_leaf (later m) r) w (leaves_counts (later m) (later_calm m) r w h)

      timed_fits : (m : ℕ) → ConfigFits K (timed m)
      timed_fits m = steps_fit K proper k (Between 0 (each_leaf (by_time (d - m)) (each_leaf (later m) r)) w) (fits m)

      timed_counts : (m : ℕ) → ConfigCounts (timed m)
      timed_counts m = steps_counts K proper k (Between 0 (each_leaf (by_time (d - m)) (each_leaf (later m) r)) w) (fits m) (counts m)

      timed_stands : (m : ℕ) → OneStocked K b x (timed m)
      timed_stands m = reacts_stand k (each_leaf (by_time (d - m)) (each_leaf (later m) r)) w (fits m) (counts m)
          (same_tree (by_time (d - m)) (by_time_same K.codes b x (d - m)) (each_leaf (later m) r) w (later_stands m r w st))

      go : (o : Option ℕ) → ((m : ℕ) → OneStocked K b x (advance K k j (d - m) (timed m))) → OneStocked K b x (elim o [
        | None ↦ Waiting r w
        | Some m ↦ elim (nat_le m d) [
          | true ↦ advance K k j (d - m) (timed m)
          | false ↦ Waiting (each_leaf (later d) r) w
        ]
      ])
      go None ih = st
      go (Some m) ih = inner (nat_le m d)
        where
          inner : (t : Bool) → OneStocked K b x (elim t [ true ↦ advance K k j (d - m) (timed m) | false ↦ Waiting (each_leaf (later d) r) w ])
          inner true = ih m
          inner false = later_stands d r w st
  advance_stands k (suc j) d (Turning n f w) t h st = st
  advance_stands k (suc j) d (Between n r w) t h st = st
  advance_stands k (suc j) d (Ended y w) t h st = st
  advance_stands k (suc j) d (Faulted e w) t h st = st

  -- ---- asyncs, in which nothing is spawned

  record AsyncPart (d : Part) : Type 0 where
    closed : Closed K proper d
    sound : Sound K proper d
    apart : in_trail d → ⊥

  apart_fine : {t : ℕ} {f : Focus Act} {d e : Part} (y : Does) → AsyncPart d → Around K t Act f d e → Room K proper e y → SpawnFine f y
  apart_fine (does.Spawns s c code pool alias vs) p a r = absurd (p.apart (around_trail K proper a p.sound r.0))
  apart_fine (does.Opens y) p a r = tt
  apart_fine (does.Waits y) p a r = tt
  apart_fine does.Passes p a r = tt
  apart_fine (does.Leaves node y) p a r = tt
  apart_fine (does.Registers s) p a r = tt
  apart_fine does.Ends p a r = tt
  apart_fine does.Heads p a r = tt
  apart_fine (does.Emits s event v) p a r = tt
  apart_fine (does.Kills k) p a r = tt
  apart_fine (does.Fails e) p a r = tt

  -- An async's part d of the open body `at`, on the ground g, with the ground h of what it can have hold of; outside it are so many instances, and something
  -- outside has hold of the slot as far as `o`.
  record Inside (c : ℕ → ℕ) (o : ℕ) (at : Body) (d : Part) (g h : Ground) : Type 0 where
    part : AsyncPart d
    on : On d g
    known : KnownAt K proper b x d g at o
    on_cap : On d h
    most : o + cap b x at h ≤ point b x Program + cap b x Program (root_ground K) + 3 * c (root b)

  -- what is left of the async, and that the slot has its value where something outside has hold of it
  abbrev ServedStocked : (ℕ → ℕ) → ℕ → Body → World → Served → Type 0
  ServedStocked c o at start (Turned r w) = (1 ≤ needed K.codes b x at r → has b x w ≡ true) × (2 < o → has b x start ≡ true → has b x w ≡ true)
  ServedStocked c o at start (Done w) = Counts (λ p. 0 + c p) w × (2 < o → has b x start ≡ true → has b x w ≡ true)
  ServedStocked c o at start y = Unit {0}

  serve_stands : (c : ℕ → ℕ) (o : ℕ) (at : Body) (d : Part) (g j : Ground) (start : World) (k : ℕ) (f : Focus Act) (w : World) → Inside c o at d g j → TurnFits K 1 d f → Counts (λ p. live_focus p f + c p) w
      → (1 ≤ focus_needed K.codes b x is_first at f + act_needed K.codes b x (body_of f at) (leaf f) → has b x w ≡ true) → (2 < o → has b x start ≡ true → has b x w ≡ true) → ServedStocked c o at start (serve K k at f w)
  unfolding serve needed
  serve_stands c o at d g j start zero f w i t h st same = tt
  serve_stands c o at d g j start (suc k) f w i t h st same =
      go (stepped K 0 at f w).outcome (stepped_fits K proper 0 at f w d i.part.closed i.part.sound t) (counts_moved (λ p. live_focus p f) (λ p. left_whole p (stepped K 0 at f w).outcome) c w u (living_moves K 0 at f w fine) h) moves.stocked
      (λ y t2 h2 st2. serve_stands c o at d g j start k y u i t2 h2 st2 kept)
    where
      u : World
      u = (stepped K 0 at f w).world

      fine : SpawnFine f (acted K 0 (body_of f at) (leaf f) w).does
      fine = apart_fine (acted K 0 (body_of f at) (leaf f) w).does i.part t.around (acted_room K proper 0 (body_of f at) t.part (leaf f) w (around_sound K proper t.around i.part.sound) t.acts)

      most : o + focus_grip K.codes b x at f ≤ 3
      most =
          let z = (around_within K proper b x f d t.part t.around at j i.on_cap).bound in
          let l = program_most b x (λ p. live_focus p f + c p) w (root_ground K) h in
          let m = i.most in
          omega (arith, z, l, m)

      moves : Steps K proper b x 0 at (focus_grip K.codes b x at f) w (stepped K 0 at f w)
      moves = stepped_moves K proper b x 0 at f w d g o i.part.closed t i.part.sound i.on i.known most st

      kept : 2 < o → has b x start ≡ true → has b x u ≡ true
      kept l v = moves.kept (let m = most in omega (arith, m, l)) (same l v)

      go : (y : Outcome) → Comes K 0 d y → Counts (λ p. left_whole p y + c p) u → (1 ≤ outcome_needed K proper b x 0 at y → has b x u ≡ true)
          → ((z : Focus Act) → TurnFits K 1 d z → Counts (λ p. live_focus p z + c p) u → (1 ≤ focus_needed K.codes b x is_first at z + act_needed K.codes b x (body_of z at) (leaf z) → has b x u ≡ true) → ServedStocked c o at start (serve K k at z u))
          → ServedStocked c o at start (elim y [
            | Goes z ↦ elim (is_again (leaf z)) [ true ↦ Turned (plug z (Run 0 Again)) u | false ↦ serve K k at z u ]
            | Fails e r ↦ Failed e r u
            | Rests r ↦ Turned r u
            | Raises r ↦ Turned r u
            | _ ↦ Done u
          ])
      go (Goes z) t2 h2 st2 ih = inner (is_again (leaf z)) refl
        where
          inner : (a : Bool) → is_again (leaf z) ≡ a → ServedStocked c o at start (elim a [ true ↦ Turned (plug z (Run 0 Again)) u | false ↦ serve K k at z u ])
          inner true e = (λ m. st2 (let p = plugged K.codes b x is_first at z (Run 0 Again) (again_later (leaf z) e) in omega (arith, p, m)), kept)
          inner false e = ih z t2 h2 st2
      go (Fails e r) t2 h2 st2 ih = tt
      go (Rests r) t2 h2 st2 ih = (st2, kept)
      go (Raises r) t2 h2 st2 ih = (st2, kept)
      go (Ends v) t2 h2 st2 ih = (h2, kept)
      go Past t2 h2 st2 ih = (h2, kept)
      go (Registers q) t2 h2 st2 ih = (h2, kept)
      go AtBlockEnd t2 h2 st2 ih = (h2, kept)
      go AtLoopHead t2 h2 st2 ih = (h2, kept)
      go (Leaves node z) t2 h2 st2 ih = (h2, kept)

  first_stands : (c : ℕ → ℕ) (o : ℕ) (at : Body) (d : Part) (g j : Ground) (k : ℕ) (y : Option (Focus Act)) (r : Residual) (w : World) → Inside c o at d g j → ChoiceFits K 1 Act (runs_at 0) d y → FoundIn Act (runs_at 0) r y
      → Counts (λ p. lives p r + c p) w → (1 ≤ needed K.codes b x at r → has b x w ≡ true) → ServedStocked c o at w (serve_first K k at y r w)
  first_stands c o at d g j k None r w i t f h st = (st, λ l v. v)
  first_stands c o at d g j k (Some z) r w i t f h st =
      serve_stands c o at d g j w k z w i (turn_of_chosen K proper 0 d z t)
      (counts_same (λ p. lives p r + c p) (λ p. live_focus p z + c p) w w (record { living = refl; given = refl }) (λ p. (let e = chosen_lives p 0 r z f in omega (arith, e))) h)
      (λ m. st (let u = unplugged K.codes b x is_first at z f.was in let v = picked_needed K b x 0 (body_of z at) f.was (leaf z) f.picked in let p = ap (needed K.codes b x at) f.plugs in omega (arith, u, v, p, m))) (λ l v. v)

  abbrev later_leaf : Unserved → Bool
  later_leaf y = false

  -- the parts around an async, after it was served
  beside : (g : Focus Unserved) (e : Part) (w u : World) → Around K 0 Unserved g (program_part K) e → (1 ≤ focus_needed K.codes b x later_leaf Program g → has b x w ≡ true)
      → (2 < point b x Program + focus_grip K.codes b x Program g → has b x w ≡ true → has b x u ≡ true) → 1 ≤ focus_needed K.codes b x later_leaf Program g → has b x u ≡ true
  beside g e w u a own k h = go (cases_lt 2 (point b x Program + focus_grip K.codes b x Program g))
    where
      go : (2 < point b x Program + focus_grip K.codes b x Program g) ⊎ (point b x Program + focus_grip K.codes b x Program g ≤ 2) → has b x u ≡ true
      go (inl l) = k l (own h)
      go (inr l) =
          absurd (let z = focus_unneeded K proper b x later_leaf g (program_part K) e a (root_sound K proper) Program (root_ground K) (point b x Program) (program_ground K proper) (known_program K proper b x (point b x Program) (omega arith)) l in omega (arith, z, h))

  -- an async names no alias
  no_past : (here : Body) (s : KNode) (c : KBlock) → out-KStmt s.stmt ≡ KStmt-F.Async c → past_needed K.codes b x here s ≡ 0
  no_past here s c e = ap (λ l. asked K.codes b x here (is_slot x (alias_of l))) e ∙ asked_zero K b x here false (λ q t. false≢true t)

  after_stands : (k : ℕ) (g : Focus Unserved) (y : Served) (r : Residual) (w : World) (sc : Scope) (c : KBlock) → Around K 0 Unserved g (program_part K) (AStatement sc (leaf g).stmt) → out-KStmt (leaf g).stmt.stmt ≡ KStmt-F.Async c
      → focus_stands g → (1 ≤ focus_needed K.codes b x later_leaf Program g → has b x w ≡ true) → TreeStocked r w → ServedStocked (λ p. live_focus p g) (point b x Program + focus_grip K.codes b x Program g) (body_of g Program) w y
      → OneStocked K b x (after_serving K k g y r w)
  unfolding needed lives pools_stand
  after_stands k g Unfinished r w sc c a e ps gs st h = st
  after_stands k g (Turned q u) r w sc c a e ps gs st h = λ m. go (one_of K b x (focus_needed K.codes b x later_leaf Program g) (needed K.codes b x (body_of g Program) q) (sum m))
    where
      sum : 1 ≤ needed K.codes b x Program (plug g (InAsync (leaf g).stmt true q)) → 1 ≤ focus_needed K.codes b x later_leaf Program g + needed K.codes b x (body_of g Program) q
      sum m = let p = plugged K.codes b x later_leaf Program g (InAsync (leaf g).stmt true q) refl in let z = no_past (body_of g Program) (leaf g).stmt c e in omega (arith, p, z, m)

      go : (1 ≤ focus_needed K.codes b x later_leaf Program g) ⊎ (1 ≤ needed K.codes b x (body_of g Program) q) → has b x u ≡ true
      go (inl m) = beside g (AStatement sc (leaf g).stmt) w u a gs h.1 m
      go (inr m) = h.0 m
  after_stands k g (Done u) r w sc c a e ps gs st h =
      reacts_stand k (plug g (Run 0 (Finish (leaf g).stmt (pos 0)))) u (plug_fits K (around_raised K (omega arith) a) (to_finish (omega arith) (ap pauses e)))
      (counts_same (λ p. 0 + live_focus p g) (λ p. lives p (plug g (Run 0 (Finish (leaf g).stmt (pos 0))))) u u (record { living = refl; given = refl }) (λ p. (let z = plug_lives p g (Run 0 (Finish (leaf g).stmt (pos 0))) in omega (arith, z))) h.0, pools_plugged g (Run 0 (Finish (leaf g).stmt (pos 0))) ps tt)
      (λ m. beside g (AStatement sc (leaf g).stmt) w u a gs h.1 (let p = plugged K.codes b x later_leaf Program g (Run 0 (Finish (leaf g).stmt (pos 0))) refl in let z = no_past (body_of g Program) (leaf g).stmt c e in omega (arith, p, z, m)))
  after_stands k g (Failed z q u) r w sc c a e ps gs st h = tt

  served_stands : (k : ℕ) (o : Option (Focus Unserved)) (r : Residual) (w : World) → ChoiceFits K 0 Unserved unserved (program_part K) o → FoundIn Unserved unserved r o → TreeCounts r w → TreeStocked r w → OneStocked K b x (served K k o r w)
  served_stands k None r w t f h st = st
  served_stands k (Some g) r w t f h st =
      let l = async_leaf K proper t.part t.was (leaf g) t.fits t.picked in
      let a : Around K 0 Unserved g (program_part K) (AStatement l.scope (leaf g).stmt) = subst (Around K 0 Unserved g (program_part K)) l.is t.around in
      let ps = found_stands unserved r g f h.1 in
      let split = unplugged K.codes b x later_leaf Program g f.was in
      let whole = ap (needed K.codes b x Program) f.plugs in
      let inner = unserved_needed K.codes b x (body_of g Program) f.was (leaf g) f.picked in
      let m = around_known K proper b x g (program_part K) (AStatement l.scope (leaf g).stmt) a Program (root_ground K) (point b x Program) (program_ground K proper) (known_program K proper b x (point b x Program) (omega arith)) in
      let n = inner_ground (leaf g).stmt (KStmt-F.Async l.block) m.ground l.layer m.on in
      let j = around_within K proper b x g (program_part K) (AStatement l.scope (leaf g).stmt) a Program (root_ground K) (program_ground K proper) in
      let i = inner_ground (leaf g).stmt (KStmt-F.Async l.block) j.ground l.layer j.on in
      let within = cap_inner b x (body_of g Program) i.ground j.ground i.inner in
      let bound = j.bound in
      after_stands k g _ r w l.scope l.block a l.layer ps.0 (λ u. st (omega (arith, split, whole, u))) st
      (first_stands (λ q. live_focus q g) (point b x Program + focus_grip K.codes b x Program g) (body_of g Program) (ABlock false (async_scope K l.scope) l.block) n.ground i.ground k (choose Act (runs_at 0) (leaf g).inner) (leaf g).inner w
      (record {
        part = record { closed = λ node u v. false≢true u; sound = (layer_of K proper l.scope (leaf g).stmt (KStmt-F.Async l.block) l.layer (around_sound K proper a (root_sound K proper))).1; apart = λ u. false≢true u };
        on = n.on;
        known = known_async K proper b x l.scope n.ground m.ground (body_of g Program) _ n.inner m.known;
        on_cap = i.on;
        most = omega (arith, within, bound);
      }) (choice_fits K 1 Act (runs_at 0) l.fits) (choose_found Act (runs_at 0) (leaf g).inner)
      (counts_same (λ q. lives q r) (λ q. lives q (leaf g).inner + live_focus q g) w w (record { living = refl; given = refl })
      (λ q. (let u = plug_lives q g f.was in let v = unserved_lives q f.was (leaf g) f.picked in let z = ap (lives q) f.plugs in omega (arith, u, v, z))) h.0)
      (λ u. st (omega (arith, split, whole, inner, u))))

  idle_turn_stands : (k : ℕ) (c : Config) → ConfigFits K c → ConfigCounts c → OneStocked K b x c → OneStocked K b x (idle_turn K k c)
  idle_turn_stands k (Waiting r w) t h st = go (choose Unserved unserved r) (choice_fits K 0 Unserved unserved t) (choose_found Unserved unserved r)
    where
      again : Residual
      again = each_leaf new_round r

      go : (o : Option (Focus Unserved)) → ChoiceFits K 0 Unserved unserved (program_part K) o → FoundIn Unserved unserved r o
          → OneStocked K b x (elim o [ Some g ↦ served K k (Some g) r w | None ↦ served K k (choose Unserved unserved again) again w ])
      go (Some g) c f = served_stands k (Some g) r w c f h st
      go None c f =
          served_stands k (choose Unserved unserved again) again w (choice_fits K 0 Unserved unserved (leaves_fit K 0 0 new_round (round_fits K) t)) (choose_found Unserved unserved again) (leaves_counts new_round round_calm r w h)
          (same_tree new_round (round_same K.codes b x) r w st)
  idle_turn_stands k (Turning n f w) t h st = st
  idle_turn_stands k (Between n r w) t h st = st
  idle_turn_stands k (Ended y w) t h st = st
  idle_turn_stands k (Faulted e w) t h st = st

  one_idle : (k : ℕ) (c : Config) → ConfigFits K c → ConfigCounts c → ConfigCounts (idle_turn K k c)
  unfolding done
  one_idle k c t h = done_counts K proper k (Idle 1) c t h

  idle_turns_stand : (k j : ℕ) (c : Config) → ConfigFits K c → ConfigCounts c → OneStocked K b x c → OneStocked K b x (idle_turns K k j c)
  idle_turns_stand k zero c t h st = st
  idle_turns_stand k (suc j) c t h st = idle_turns_stand k j (idle_turn K k c) (idle_turn_fits K proper k c t) (one_idle k c t h) (idle_turn_stands k c t h st)

  pub done_stands : (k : ℕ) (y : Command) (c : Config) → ConfigFits K c → ConfigCounts c → OneStocked K b x c → OneStocked K b x (done K k y c)
  unfolding done
  done_stands k (Input event v) c t h st = input_stands k event v c t h st
  done_stands k (Advance us) c t h st = advance_stands k (us + 1) us c t h st
  done_stands k (Idle j) c t h st = idle_turns_stand k j c t h st

  all_stand : (k : ℕ) (ys : List Command) (c : Config) → ConfigFits K c → ConfigCounts c → OneStocked K b x c → OneStocked K b x (all_done K k ys c)
  unfolding all_done
  all_stand k [] c t h st = st
  all_stand k (y ∷ ys) c t h st = all_stand k ys (done K k y c) (done_fits K proper k y c t) (done_counts K proper k y c t h) (done_stands k y c t h st)

  pub run_stands : (k : ℕ) (ys : List Command) → OneStocked K b x (run K k ys)
  unfolding run needed
  run_stands k ys =
      all_stand k ys (steps K k (booted K)) (steps_fit K proper k (booted K) (booted_fits K proper)) (steps_counts K proper k (booted K) (booted_fits K proper) (booted_counts K proper))
      (steps_stocked K proper b x k (booted K) (booted_fits K proper) (booted_counts K proper) (λ h. absurd (omega (arith, h))))
