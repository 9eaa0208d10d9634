-- One step of a trail leaves a value to each slot that is needed.
use Rattle.std.proofs.Common.{◌≡◌, refl, sym, ap, ◌∙◌, subst, ◌≤◌, ◌<◌, ℕ, suc, ◌+◌, ℤ, pos, Bool, true, false, if◌then◌else◌, ◌==◌, ◌⊎◌, inl, inr, List, ◌∷◌, Option, Some, None, arith}
use Rattle.std.proofs.lemmas.Bool.{cases_lt, false≢true}
use Rattle.ceu_base.specs.declared.kinds.Fault.TheVariants.{SpawnCount}
use Rattle.ceu_base.specs.declared.kinds.Mark.TheVariants as mark
use Rattle.ceu_tree.specs.declared.kernel.Kernel.{Kernel}
use Rattle.ceu_tree.specs.declared.kernel.KCode.{KCode}
use Rattle.ceu_tree.specs.declared.kernel.KNode.{KNode}
use Rattle.ceu_tree.specs.Residual.{Body, Spawned as InstanceBody, same_body, Act, Begin, Finish, Seat, Residual, Over, Run}
use Rattle.ceu_tree.specs.Focus.{Focus, plug, graft, leaf, body_of}
use Rattle.ceu_tree.specs.World.{World, NotSet, Names, marked, set_alias, set_parameters}
use Rattle.ceu_tree.specs.Wake.{by_event}
use Rattle.ceu_tree.specs.Leaf as does
use Rattle.ceu_tree.specs.Leaf.{Does, acted, code_at}
use Rattle.ceu_tree.specs.Around.{Outcome, Goes, Rests, Raises, Fails, Past, Registers, AtBlockEnd, AtLoopHead, Leaves, Moved, moved, answered}
use Rattle.ceu_tree.specs.Mentions.{is_slot}
use Rattle.ceu_tree.specs.Step.{event_code, free_place, seated, spawned_at, spawned, unseat, killed, does_in, stepped}
use Rattle.ceu_tree.specs.Proper.{is_proper}
use Rattle.laws_meaning_basics.specs.Shape.{Part, Around, TurnFits, Comes}
use Rattle.laws_meaning_basics.proofs.UpFits.{Sound}
use Rattle.laws_meaning_basics.proofs.LeafFits.{Pausing, DoesFit, acted_fits}
use Rattle.laws_meaning_basics.proofs.StepFits.{Closed, around_sound, unseated_around}
use Rattle.laws_meaning_values.specs.Ground.{has, Ground, On}
use Rattle.laws_meaning_values.specs.Ready.{declares}
use Rattle.laws_meaning_values.proofs.UpValues.{is_head_outcome}
use Rattle.laws_meaning_counters.specs.Counters.{is_first}
use Rattle.laws_meaning_counters.proofs.CountersSteps.{is_heads, head_does, not_first, pausing_past}
use Rattle.laws_meaning_assigned.specs.Needed.{given_needed, past_needed, act_needed, needed, focus_needed}
use Rattle.laws_meaning_assigned.proofs.Grips.{focus_grip, unseat_less}
use Rattle.laws_meaning_assigned.proofs.Trees.{plugged, grafted, grafted_body, grafted_leaf, woken_kept, by_event_same, seat_leaf, seat_body_of, seated_needed, unseat_needed, unseat_leaf, unseat_body_of}
use Rattle.laws_meaning_assigned.proofs.Places.{KnownAt, around_known}
use Rattle.laws_meaning_assigned.proofs.Settled.{asked_one, one_of, focus_unneeded}
use Rattle.laws_meaning_assigned.proofs.Aborts.{killed_spared}
use Rattle.laws_meaning_assigned.proofs.Leaf.{alias_keeps, alias_now, parameters_keep, parameters_now, OutcomeHas, DoesHas, acted_fine}
use Rattle.laws_meaning_assigned.proofs.Up.{outcome_needed, Steps, answered_moves}

module _ (K : Kernel) (proper : is_proper K ≡ true) (b : Body) (x : ℕ) (n : ℕ) where
  module _ (root : Body) (f : Focus Act) (d e : Part) (g : Ground) (o : ℕ) (q : Closed K proper d) (a : Around K (suc n) Act f d e) (ok : Sound K proper d) (on : On d g) (kn : KnownAt K proper b x d g root o) (l : o + focus_grip K.codes b x root f ≤ 3) where
    abbrev Fine : World → Moved → Type 0
    Fine w m = Steps K proper b x n root (focus_grip K.codes b x root f) w m

    abbrev Own : World → Type 0
    Own w = 1 ≤ focus_needed K.codes b x is_first root f → has b x w ≡ true

    stays : (w u : World) (y : Outcome) → (1 ≤ outcome_needed K proper b x n root y → has b x u ≡ true) → (has b x w ≡ true → has b x u ≡ true) → Fine w (moved y u)
    stays w u y h k = record { stocked = h; kept = λ m v. k v }

    -- what is left of a focus whose leaf pauses
    plugged_with : (r : Residual) (w : World) → is_first (leaf f) ≡ false → needed K.codes b x (body_of f root) r ≡ 0 → Own w → 1 ≤ needed K.codes b x root (plug f r) → has b x w ≡ true
    plugged_with r w first z own h = own (let p = plugged K.codes b x is_first root f r first in omega (arith, p, z, h))

    spawned_moves : (s : KNode) (c : KCode) (code pool : ℕ) (alias : Option ℕ) (vs : List ℤ) (w : World) → Pausing K proper n e s → code_at code K.codes ≡ Some c → is_first (leaf f) ≡ false → DoesHas K proper b x (body_of f root) e (does.Spawns s c code pool alias vs) w → Own w
        → Fine w (spawned n root (body_of f root) f s c code pool alias vs w)
    unfolding needed
    spawned_moves s c code pool alias vs w z at_code first h own = go (free_place pool f)
      where
        body : Body
        body = body_of f root

        empty : World
        empty = marked mark.Full (set_alias body alias NotSet w)

        at : (place : ℕ) → Fine w (spawned_at n body f s c code pool place alias vs w)
        at place = inner (w.given == 4294967295)
          where
            number : ℕ
            number = w.given + 1

            seat : Seat
            seat = record { pool = pool; place = place; code = code; number = number }

            v : World
            v = set_alias body alias (Names number) (record w { given = number; living = number ∷ w.living })

            u : World
            u = set_parameters (InstanceBody number) c.params vs v

            keeps : has b x w ≡ true → has b x u ≡ true
            keeps y = parameters_keep b x (InstanceBody number) c.params vs v (alias_keeps b x body alias (Names number) (record w { given = number; living = number ∷ w.living }) y)

            split : needed K.codes b x root (plug (seated seat (Run (n + 1) (Begin c.body)) f) (Run n (Finish s (pos 0)))) ≡ focus_needed K.codes b x is_first root (seated seat (Run (n + 1) (Begin c.body)) f) + past_needed K.codes b x (body_of f root) s
            split =
                plugged K.codes b x is_first root (seated seat (Run (n + 1) (Begin c.body)) f) (Run n (Finish s (pos 0))) (ap is_first (seat_leaf K.codes b x seat (Run (n + 1) (Begin c.body)) f) ∙ first) ∙
                ap (λ d. focus_needed K.codes b x is_first root (seated seat (Run (n + 1) (Begin c.body)) f) + past_needed K.codes b x d s) (seat_body_of K.codes b x seat (Run (n + 1) (Begin c.body)) root f)

            parameter : (same_body (InstanceBody number) b ≡ true) × (declares x c.params ≡ true) → has b x u ≡ true
            parameter y = parameters_now b x (InstanceBody number) c.params vs v h.0 y.0 y.1

            new : (1 ≤ focus_needed K.codes b x is_first root f) ⊎ (1 ≤ given_needed K.codes b x (InstanceBody number) (code_at code K.codes)) → has b x u ≡ true
            new (inl y) = keeps (own y)
            new (inr y) = parameter (asked_one K b x (InstanceBody number) (declares x c.params) (subst (λ k. 1 ≤ given_needed K.codes b x (InstanceBody number) k) at_code y))

            aliased : (same_body body b ≡ true) × (is_slot x alias ≡ true) → has b x u ≡ true
            aliased y = parameters_keep b x (InstanceBody number) c.params vs v (alias_now b x body alias (Names number) (record w { given = number; living = number ∷ w.living }) y.0 y.1)

            part : (1 ≤ focus_needed K.codes b x is_first root (seated seat (Run (n + 1) (Begin c.body)) f)) ⊎ (1 ≤ past_needed K.codes b x (body_of f root) s) → has b x u ≡ true
            part (inl y) = new (seated_needed K.codes b x seat (n + 1) c.body root f y)
            part (inr y) = aliased (asked_one K b x body (is_slot x alias) (subst (λ k. 1 ≤ k) h.1 y))

            stocked : 1 ≤ needed K.codes b x root (plug (seated seat (Run (n + 1) (Begin c.body)) f) (Run n (Finish s (pos 0)))) → has b x u ≡ true
            stocked y = part (one_of K b x (focus_needed K.codes b x is_first root (seated seat (Run (n + 1) (Begin c.body)) f)) (past_needed K.codes b x (body_of f root) s) (subst (λ k. 1 ≤ k) split y))

            inner : (t : Bool)
                → Fine w (if t then moved (Fails (SpawnCount, s.pos) (plug f Over)) w else moved (Raises (plug (seated seat (Run (n + 1) (Begin c.body)) f) (Run n (Finish s (pos 0))))) (marked (mark.Push (n + 1)) (marked (mark.Spawned number) u)))
            inner true = stays w w (Fails (SpawnCount, s.pos) (plug f Over)) (λ y. absurd (omega (arith, y))) (λ y. y)
            inner false = stays w (marked (mark.Push (n + 1)) (marked (mark.Spawned number) u)) (Raises (plug (seated seat (Run (n + 1) (Begin c.body)) f) (Run n (Finish s (pos 0))))) stocked keeps

        go : (y : Option ℕ) → Fine w (elim y [
          | None ↦ answered root f Past (marked mark.Full (set_alias body alias NotSet w))
          | Some place ↦ spawned_at n body f s c code pool place alias vs w
        ])
        go None =
            let m = answered_moves K proper b x n root f Past empty d e g o q a ok on kn l (λ y. alias_keeps b x body alias NotSet w (own y)) (λ y. absurd (omega (arith, y))) (h.2 empty (λ y z. alias_now b x body alias NotSet w y z)) (λ y. absurd (false≢true (sym first ∙ y))) (pausing_past K proper n z) in
            record { stocked = m.stocked; kept = λ y v. m.kept y (alias_keeps b x body alias NotSet w v) }
        go (Some place) = at place

    kills_moves : (k : ℕ) (w : World) → Comes K n e Past → is_first (leaf f) ≡ false → ((u : World) → OutcomeHas K proper b x (body_of f root) Past e u) → Own w → Fine w (answered root (unseat k f) Past (killed k f w))
    kills_moves k w c first now own =
        let less = unseat_less K.codes b x k root f in
        let m = answered_moves K proper b x n root (unseat k f) Past (killed k f w) d e g o q (unseated_around K proper (suc n) k a) ok on kn (omega (arith, l, less)) (after (cases_lt 2 (o + focus_grip K.codes b x root (unseat k f)))) (λ y. absurd (omega (arith, y)))
        (subst (λ h. OutcomeHas K proper b x h Past e (killed k f w)) (sym (unseat_body_of K.codes b x k root f)) (now (killed k f w))) (λ y. absurd (false≢true (sym first ∙ ap is_first (sym (unseat_leaf k f)) ∙ y))) c in
        record { stocked = m.stocked; kept = λ y v. m.kept (omega (arith, less, y)) (killed_spared K.codes b x k root f w (omega (arith, less, y)) v) }
      where
        after : (2 < o + focus_grip K.codes b x root (unseat k f)) ⊎ (o + focus_grip K.codes b x root (unseat k f) ≤ 2) → 1 ≤ focus_needed K.codes b x is_first root (unseat k f) → has b x (killed k f w) ≡ true
        after (inl y) h = killed_spared K.codes b x k root f w (let less = unseat_less K.codes b x k root f in omega (arith, less, l, y)) (own (let less = unseat_needed K.codes b x k root f in omega (arith, less, h)))
        after (inr y) h = absurd (let z = focus_unneeded K proper b x is_first (unseat k f) d e (unseated_around K proper (suc n) k a) ok root g o on kn y in omega (arith, z, h))

    answers : (y : Outcome) (w : World) → Comes K n e y → (1 ≤ outcome_needed K proper b x n (body_of f root) y → has b x w ≡ true) → OutcomeHas K proper b x (body_of f root) y e w → (is_first (leaf f) ≡ true → is_head_outcome y ≡ true) → Own w → Fine w (answered root f y w)
    answers y w c h now hd own = answered_moves K proper b x n root f y w d e g o q a ok on kn l own h now hd c

    does_moves : (y : Does) (w : World) → DoesFit K proper n e y → DoesHas K proper b x (body_of f root) e y w → (is_first (leaf f) ≡ true → is_heads y ≡ true) → Own w → Fine w (does_in K n root (body_of f root) f y w)
    unfolding needed
    does_moves (does.Opens y) w c h hd own = stays w w (Goes (graft f y)) (λ m. go (one_of K b x (focus_needed K.codes b x is_first root f) (focus_needed K.codes b x is_first (body_of f root) y + act_needed K.codes b x (body_of y (body_of f root)) (leaf y)) (sum m))) (λ v. v)
      where
        go : (1 ≤ focus_needed K.codes b x is_first root f) ⊎ (1 ≤ focus_needed K.codes b x is_first (body_of f root) y + act_needed K.codes b x (body_of y (body_of f root)) (leaf y)) → has b x w ≡ true
        go (inl m) = own m
        go (inr m) = h m

        sum : 1 ≤ focus_needed K.codes b x is_first root (graft f y) + act_needed K.codes b x (body_of (graft f y) root) (leaf (graft f y))
            → 1 ≤ focus_needed K.codes b x is_first root f + (focus_needed K.codes b x is_first (body_of f root) y + act_needed K.codes b x (body_of y (body_of f root)) (leaf y))
        sum m =
            let z = grafted K.codes b x is_first is_first root f y (not_first f (does.Opens y) hd refl) in
            let u = ap (λ d. act_needed K.codes b x d (leaf (graft f y))) (grafted_body K.codes b x root f y) ∙ ap (act_needed K.codes b x (body_of y (body_of f root))) (grafted_leaf K.codes b x f y) in
            omega (arith, z, u, m)
    does_moves (does.Waits r) w c h hd own = stays w w (Rests (plug f r)) (plugged_with r w (not_first f (does.Waits r) hd refl) h own) (λ v. v)
    does_moves does.Passes w c h hd own = answers Past w c (λ y. absurd (omega (arith, y))) h (λ u. absurd (false≢true (hd u))) own
    does_moves (does.Leaves node z) w c h hd own = answers (Leaves node z) w c (λ y. absurd (omega (arith, y))) h (λ u. absurd (false≢true (hd u))) own
    does_moves (does.Registers s) w c h hd own = answers (Registers s) w c (λ y. absurd (omega (arith, y))) tt (λ u. absurd (false≢true (hd u))) own
    does_moves does.Ends w c h hd own = answers AtBlockEnd w c (λ y. absurd (omega (arith, y))) tt (λ u. absurd (false≢true (hd u))) own
    does_moves does.Heads w c h hd own = answers AtLoopHead w c (λ y. absurd (omega (arith, y))) tt (λ u. refl) own
    does_moves (does.Emits s event v) w c h hd own =
        stays w (marked (mark.Push (n + 1)) w) _
        (λ m. plugged_with (Run n (Finish s (pos 0))) w (not_first f (does.Emits s event v) hd refl) h own
        (let z = woken_kept K.codes b x (by_event (n + 1) event v) (by_event_same K.codes b x (n + 1) event v) (event_code event K.events) root f (Run n (Finish s (pos 0))) in subst (λ k. 1 ≤ k) z m)) (λ v. v)
    does_moves (does.Spawns s m code pool alias vs) w c h hd own = spawned_moves s m code pool alias vs w c.0 c.1 (not_first f (does.Spawns s m code pool alias vs) hd refl) h own
    does_moves (does.Kills k) w c h hd own = kills_moves k w c (not_first f (does.Kills k) hd refl) h own
    does_moves (does.Fails z) w c h hd own = stays w w (Fails z (plug f Over)) (λ y. absurd (omega (arith, y))) (λ v. v)

  pub stepped_moves : (root : Body) (f : Focus Act) (w : World) (d : Part) (g : Ground) (o : ℕ) → Closed K proper d → TurnFits K (suc n) d f → Sound K proper d → On d g → KnownAt K proper b x d g root o → o + focus_grip K.codes b x root f ≤ 3
      → (1 ≤ focus_needed K.codes b x is_first root f + act_needed K.codes b x (body_of f root) (leaf f) → has b x w ≡ true) → Steps K proper b x n root (focus_grip K.codes b x root f) w (stepped K n root f w)
  unfolding stepped
  stepped_moves root f w d g o q t ok on kn l own =
      let m = acted K n (body_of f root) (leaf f) w in
      let sound = around_sound K proper t.around ok in
      let i = around_known K proper b x f d t.part t.around root g o on kn in
      let z = acted_fine K proper b x n (body_of f root) t.part i.ground (o + focus_grip K.codes b x root f) (leaf f) w i.known sound t.acts (λ u. own (omega (arith, u))) in
      let r = does_moves root f d t.part g o q t.around ok on kn l m.does m.world (acted_fits K proper n (body_of f root) t.part (leaf f) w sound t.acts) z.done (head_does K n (body_of f root) (leaf f) w) (λ u. z.keeps (own (omega (arith, u)))) in
      record { stocked = r.stocked; kept = λ u v. r.kept u (z.keeps v) }
