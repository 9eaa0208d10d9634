-- One step of a trail keeps the balance of the numbers that live and those of the instances, and their places.
use Rattle.std.proofs.Common.{◌≡◌, refl, sym, ap, ◌∙◌, ◌<◌, ◌≤◌, ℕ, ◌+◌, ◌^◌, ℤ, pos, Bool, true, false, if◌then◌else◌, ◌==◌, ◌⊎◌, inl, inr, List, ◌∷◌, Option, Some, None, arith, eqb-true}
use Rattle.std.proofs.lemmas.Bool.{eqb-false, and_parts, and_from}
use Rattle.ceu_base.specs.declared.kinds.Fault.TheVariants.{SpawnCount}
use Rattle.ceu_base.specs.declared.kinds.Mark.TheVariants as mark
use Rattle.ceu_tree.specs.declared.kernel.Kernel.{Kernel}
use Rattle.ceu_tree.specs.declared.kernel.KCode.{KCode}
use Rattle.ceu_tree.specs.declared.kernel.KDecl.{KDecl}
use Rattle.ceu_tree.specs.declared.kernel.KNode.{KNode}
use Rattle.ceu_tree.specs.declared.kernel.KBlock.{out-KBlock}
use Rattle.ceu_tree.specs.Residual.{Body, Spawned as InstanceBody, Act, Begin, Finish, Seat, Residual, Over, Run, WaitEvent, Instances, no_instance, instance}
use Rattle.ceu_tree.specs.Focus.{Frame, OfBlock, Focus, Here, In, plug, leaf, body_of}
use Rattle.ceu_tree.specs.World.{World, NotSet, Names, marked, set_alias, set_parameters, dead}
use Rattle.ceu_tree.specs.Abort.{aborted}
use Rattle.ceu_tree.specs.Wake.{by_event}
use Rattle.ceu_tree.specs.Leaf as does
use Rattle.ceu_tree.specs.Leaf.{Does, acted}
use Rattle.ceu_tree.specs.Around.{Outcome, Rests, Raises, Fails, Past, Registers, AtBlockEnd, AtLoopHead, Leaves, Moved, moved, answered}
use Rattle.ceu_tree.specs.Step.{event_code, free_place, seated, spawned_at, spawned, unseated, unseat_frame, unseat, killed_in, kill_frame, killed, does_in, stepped}
use Rattle.laws_meaning_instances.specs.Instances.{is_before, goes_before, pools_stand, seats_stand}
use Rattle.laws_meaning_instances.proofs.Living.{once, often, lives, live_instances, once_true, once_false, Kept, kept_same, kept_then, kept_beside, kept_equal, Quiet, quiet, quiet_then, kept_quiet, dead_kept, aborted_kept}
use Rattle.laws_meaning_instances.proofs.Trees.{live_frame, live_focus, frame_stands, focus_stands, plug_lives, graft_lives, plugged, grafted, Calm, woken_lives, woken_stand}
use Rattle.laws_meaning_instances.proofs.Up.{left, left_whole, answered_balanced}
use Rattle.laws_meaning_instances.proofs.Places.{OutcomeStands, Fine, answered_fine}
use Rattle.laws_meaning_instances.proofs.Leaf.{Fresh, set_parameters_quiet, set_alias_quiet, acted_fresh}
use Rattle.laws_meaning_instances.proofs.Spawns.{one_has, one_lives, one_stands}

-- ---- numbers that live

-- none lives twice, none that was not given, and the last that was given is below 2^32
pub record Given (n : ℕ) (w : World) : Type 0 where
  pub one : often n w.living ≤ 1
  pub none : (n ≡ 0) ⊎ (w.given < n) → often n w.living ≡ 0
  pub below : w.given < 2 ^ 32

pub record Moves (n : ℕ) (w : World) (m : ℕ) (u : World) (k : ℕ) : Type 0 where
  pub counts : (c : ℕ) → often n w.living ≡ m + c → often n u.living ≡ k + c
  pub fine : Given n w → Given n u

pub moves_kept : (n : ℕ) (w u : World) (m k : ℕ) → Kept n w m u k → Moves n w m u k
moves_kept n w u m k h = record {
  counts = h.counts;
  fine = λ g. record {
    one = (let a = h.fewer in let b = g.one in omega (arith, a, b));
    none = λ z. (let a = h.fewer in let b = g.none (earlier z) in omega (arith, a, b));
    below = (let a = h.given in let b = g.below in omega (arith, a, b));
  };
}
  where
    earlier : (n ≡ 0) ⊎ (u.given < n) → (n ≡ 0) ⊎ (w.given < n)
    earlier (inl e) = inl e
    earlier (inr l) = inr (let a = h.given in omega (arith, l, a))

pub moves_then : (n : ℕ) (w u v : World) (j m k : ℕ) → Moves n w j u m → Moves n u m v k → Moves n w j v k
moves_then n w u v j m k a b = record { counts = λ c h. b.counts c (a.counts c h); fine = λ g. b.fine (a.fine g) }

-- ---- leaves that wake

by_event_calm : (level event : ℕ) (v : ℤ) → Calm (by_event level event v)
unfolding lives pools_stand
by_event_calm level event v = record { counts = count; stands = stand }
  where
    either : (n : ℕ) (b : Bool) (x y : Residual) → lives n x ≡ 0 → lives n y ≡ 0 → lives n (if b then x else y) ≡ 0
    either n true x y h k = h
    either n false x y h k = k

    count : (n : ℕ) (r : Residual) → lives n (by_event level event v r) ≡ lives n r
    count n (WaitEvent e s) = either n (e == event) _ _ refl refl
    count n r = refl

    stand : (r : Residual) → pools_stand r → pools_stand (by_event level event v r)
    stand (WaitEvent e s) h = go (e == event)
      where
        go : (b : Bool) → pools_stand (if b then Run level (Finish s v) else WaitEvent e s)
        go true = tt
        go false = tt
    stand r h = h

-- ---- a kill

killed_in_kept : (p : ℕ) (k : ℕ) (all : Instances) (w : World) (c : ℕ) → Kept p w (live_instances p all + c) (killed_in k all w) (live_instances p (unseated k all) + c)
unfolding lives
killed_in_kept p k no_instance w c = kept_same p w w _ (quiet w)
killed_in_kept p k (instance seat r more) w c = go (seat.number == k) refl (killed_in_kept p k more w c)
  where
    go : (b : Bool) → (seat.number == k) ≡ b → Kept p w (live_instances p more + c) (killed_in k more w) (live_instances p (unseated k more) + c)
        → Kept p w (once p seat.number + (lives p r + live_instances p more) + c) (if b then dead k (aborted r (InstanceBody k) w) else killed_in k more w) (live_instances p (if b then more else instance seat r (unseated k more)) + c)
    go true e ih =
        let same = ap (once p) (eqb-true seat.number k e) in
        kept_then p w (aborted r (InstanceBody k) w) _ _ (once p k + (live_instances p more + c)) _
        (kept_equal p w (aborted r (InstanceBody k) w) (lives p r + (once p k + (live_instances p more + c))) (once p k + (live_instances p more + c)) _ _ (omega (arith, same)) refl (aborted_kept r p (InstanceBody k) w _))
        (kept_equal p _ _ (once p k + (live_instances p more + c)) (0 + (live_instances p more + c)) _ _ refl (omega arith) (kept_beside p _ _ (once p k) 0 (live_instances p more + c) (dead_kept p k _)))
    go false e ih =
        kept_equal p w _ (live_instances p more + c + (once p seat.number + lives p r)) (live_instances p (unseated k more) + c + (once p seat.number + lives p r)) _ _ (omega arith) (omega arith) (kept_beside p w _ _ _ (once p seat.number + lives p r) ih)

kill_frame_kept : (p : ℕ) (k : ℕ) (fr : Frame) (w : World) (c : ℕ) → Kept p w (live_frame p fr + c) (kill_frame k fr w) (live_frame p (unseat_frame k fr) + c)
kill_frame_kept p k (OfBlock b fin all rest) w c = killed_in_kept p k all w c
kill_frame_kept p k fr w c = kept_same p w w _ (quiet w)

killed_kept : (p : ℕ) (k : ℕ) (f : Focus Act) (w : World) (c : ℕ) → Kept p w (live_focus p f + c) (killed k f w) (live_focus p (unseat k f) + c)
unfolding live_focus
killed_kept p k (Here a) w c = kept_same p w w _ (quiet w)
killed_kept p k (In fr f) w c =
    kept_then p w (kill_frame k fr w) _ _ (live_frame p (unseat_frame k fr) + (live_focus p f + c)) _
    (kept_equal p w _ (live_frame p fr + (live_focus p f + c)) _ _ _ (omega arith) refl (kill_frame_kept p k fr w _))
    (kept_equal p _ _ (live_focus p f + (live_frame p (unseat_frame k fr) + c)) (live_focus p (unseat k f) + (live_frame p (unseat_frame k fr) + c)) _ _ (omega arith) (omega arith) (killed_kept p k f _ _))

unseated_before : (k : ℕ) (other : Seat) (all : Instances) → goes_before other all ≡ true → goes_before other (unseated k all) ≡ true
unseated_before k other no_instance h = h
unseated_before k other (instance seat r more) h = go (seat.number == k) (unseated_before k other more a.1)
  where
    a : (is_before other seat ≡ true) × (goes_before other more ≡ true)
    a = and_parts (is_before other seat) (goes_before other more) h

    go : (b : Bool) → goes_before other (unseated k more) ≡ true → goes_before other (if b then more else instance seat r (unseated k more)) ≡ true
    go true ih = a.1
    go false ih = and_from (is_before other seat) (goes_before other (unseated k more)) a.0 ih

unseated_stand : (k : ℕ) (ds : List KDecl) (all : Instances) → seats_stand ds all → seats_stand ds (unseated k all)
unfolding seats_stand
unseated_stand k ds no_instance h = h
unseated_stand k ds (instance seat r more) h = go (seat.number == k) (unseated_stand k ds more h.3)
  where
    go : (b : Bool) → seats_stand ds (unseated k more) → seats_stand ds (if b then more else instance seat r (unseated k more))
    go true ih = h.3
    go false ih = (h.0, unseated_before k seat more h.1, h.2, ih)

unseat_stands : (k : ℕ) (f : Focus Act) → focus_stands f → focus_stands (unseat k f)
unfolding focus_stands
unseat_stands k (Here a) h = tt
unseat_stands k (In fr f) h = (frame fr h.0, unseat_stands k f h.1)
  where
    frame : (fr : Frame) → frame_stands fr → frame_stands (unseat_frame k fr)
    frame (OfBlock b fin all rest) z = unseated_stand k (out-KBlock b).decls all z
    frame fr z = z

-- ---- the step

-- one of the parts around a leaf that spawns has the pool
abbrev pub SpawnFine : Focus Act → Does → Type 0
SpawnFine f (does.Spawns s c code pool alias vs) = one_has pool code f
SpawnFine f d = Unit {0}

module _ (K : Kernel) (n : ℕ) (root body : Body) (f : Focus Act) where
  module _ (p : ℕ) where
    -- from the focus f to what is left
    abbrev pub Result : World → Moved → Type 0
    Result w m = Moves p w (live_focus p f) m.world (left_whole p m.outcome)

    plugged_moves : (w u : World) (x : Residual → Outcome) (r : Residual) → ((q : Residual) → left_whole p (x q) ≡ lives p q) → lives p r ≡ 0 → Quiet w u → Result w (moved (x (plug f r)) u)
    plugged_moves w u x r e h q = moves_kept p w u _ _ (kept_quiet p w w u _ _ (kept_equal p w w _ _ _ _ refl (sym (e (plug f r) ∙ plug_lives p f r ∙ omega (arith, h))) (kept_same p w w (live_focus p f) (quiet w))) q)

    answers : (w u : World) (x : Outcome) → Quiet w u → ((a : Act) → left p (Here a) x ≡ 0) → Result w (answered root f x u)
    answers w u x q h = moves_kept p w _ _ _ (kept_then p w u _ _ (live_focus p f) _ (kept_same p w u _ q) (answered_balanced p f x root u h))

    spawned_at_moves : (s : KNode) (c : KCode) (code pool place : ℕ) (alias : Option ℕ) (vs : List ℤ) (w : World) → one_has pool code f → Result w (spawned_at n body f s c code pool place alias vs w)
    unfolding lives
    spawned_at_moves s c code pool place alias vs w one = go (w.given == 4294967295) refl
      where
        number : ℕ
        number = w.given + 1

        v : World
        v = record w { given = number; living = number ∷ w.living }

        u : World
        u = set_parameters (InstanceBody number) c.params vs (set_alias body alias (Names number) v)

        seat : Seat
        seat = record { pool = pool; place = place; code = code; number = number }

        q : Quiet v u
        q = quiet_then v _ u (set_alias_quiet body alias (Names number) v) (set_parameters_quiet (InstanceBody number) c.params vs _)

        left_over : lives p (plug (seated seat (Run (n + 1) (Begin c.body)) f) (Run n (Finish s (pos 0)))) ≡ live_focus p f + once p number
        left_over = let a = plug_lives p (seated seat (Run (n + 1) (Begin c.body)) f) (Run n (Finish s (pos 0))) in let b = one_lives p seat (Run (n + 1) (Begin c.body)) f one in omega (arith, a, b)

        living : often p u.living ≡ once p number + often p w.living
        living = ap (often p) q.living

        given : u.given ≡ number
        given = q.given

        new : (w.given == 4294967295) ≡ false → Given p w → Given p u
        new e g = record { one = which (p == number) refl; none = away; below = (let a = given in let b = g.below in let d = eqb-false w.given 4294967295 e in omega (arith, a, b, d)) }
          where
            which : (b : Bool) → (p == number) ≡ b → often p u.living ≤ 1
            which true z = let a = living in let d = once_true p number z in let k = g.none (inr (let y = eqb-true p number z in omega (arith, y))) in omega (arith, a, d, k)
            which false z = let a = living in let d = once_false p number z in let k = g.one in omega (arith, a, d, k)

            other : (b : Bool) → (p == number) ≡ b → (p ≡ 0) ⊎ (number < p) → often p u.living ≡ 0
            other true z (inl x) = let y = eqb-true p number z in absurd (omega (arith, y, x))
            other true z (inr x) = let y = eqb-true p number z in absurd (omega (arith, y, x))
            other false z (inl x) = let a = living in let d = once_false p number z in let k = g.none (inl x) in omega (arith, a, d, k)
            other false z (inr x) = let a = living in let d = once_false p number z in let k = g.none (inr (omega (arith, x))) in omega (arith, a, d, k)

            away : (p ≡ 0) ⊎ (u.given < p) → often p u.living ≡ 0
            away (inl x) = other (p == number) refl (inl x)
            away (inr x) = other (p == number) refl (inr (let a = given in omega (arith, a, x)))

        go : (b : Bool) → (w.given == 4294967295) ≡ b → Result w (if b then moved (Fails (SpawnCount, s.pos) (plug f Over)) w else moved (Raises (plug (seated seat (Run (n + 1) (Begin c.body)) f) (Run n (Finish s (pos 0))))) (marked (mark.Push (n + 1)) (marked (mark.Spawned number) u)))
        go true e = plugged_moves w w (Fails (SpawnCount, s.pos)) Over (λ r. refl) refl (quiet w)
        go false e = record { counts = λ d h. (let a = living in omega (arith, a, h, left_over)); fine = λ g. (let z = new e g in record { one = z.one; none = z.none; below = z.below }) }

    spawned_moves : (s : KNode) (c : KCode) (code pool : ℕ) (alias : Option ℕ) (vs : List ℤ) (w : World) → one_has pool code f → Result w (spawned n root body f s c code pool alias vs w)
    spawned_moves s c code pool alias vs w one = go (free_place pool f)
      where
        q : Quiet w (set_alias body alias NotSet w)
        q = set_alias_quiet body alias NotSet w

        go : (o : Option ℕ) → Result w (elim o [
          | None ↦ answered root f Past (marked mark.Full (set_alias body alias NotSet w))
          | Some place ↦ spawned_at n body f s c code pool place alias vs w
        ])
        go None = answers w (marked mark.Full (set_alias body alias NotSet w)) Past (record { living = q.living; given = q.given }) (λ a. refl)
        go (Some place) = spawned_at_moves s c code pool place alias vs w one

    does_moves : (d : Does) (w : World) → Fresh d → SpawnFine f d → Result w (does_in K n root body f d w)
    unfolding lives live_focus
    does_moves (does.Opens x) w h k = moves_kept p w w _ _ (kept_equal p w w _ _ _ _ refl (let e = h.0 p in omega (arith, graft_lives p f x, e)) (kept_same p w w (live_focus p f) (quiet w)))
    does_moves (does.Waits r) w h k = plugged_moves w w Rests r (λ q. refl) (h.0 p) (quiet w)
    does_moves does.Passes w h k = answers w w Past (quiet w) (λ a. refl)
    does_moves (does.Leaves node x) w h k = answers w w (Leaves node x) (quiet w) (λ a. refl)
    does_moves (does.Registers s) w h k = answers w w (Registers s) (quiet w) (λ a. refl)
    does_moves does.Ends w h k = answers w w AtBlockEnd (quiet w) (λ a. refl)
    does_moves does.Heads w h k = answers w w AtLoopHead (quiet w) (λ a. refl)
    does_moves (does.Emits s event v) w h k =
        moves_kept p w _ _ _
        (kept_equal p w (marked (mark.Push (n + 1)) w) (live_focus p f) (live_focus p f) _ _ refl
        (let a = woken_lives (by_event (n + 1) event v) (by_event_calm (n + 1) event v) p (event_code event K.events) f (Run n (Finish s (pos 0))) in omega (arith, a))
        (kept_same p w (marked (mark.Push (n + 1)) w) (live_focus p f) (record { living = refl; given = refl })))
    does_moves (does.Spawns s c code pool alias vs) w h k = spawned_moves s c code pool alias vs w k
    does_moves (does.Kills j) w h k =
        moves_kept p w _ _ _
        (kept_then p w (killed j f w) _ _ (live_focus p (unseat j f)) _
        (kept_equal p w _ (live_focus p f + 0) (live_focus p (unseat j f) + 0) _ _ (omega arith) (omega arith) (killed_kept p j f w 0))
        (answered_balanced p (unseat j f) Past root (killed j f w) (λ a. refl)))
    does_moves (does.Fails e) w h k = plugged_moves w w (Fails e) Over (λ q. refl) refl (quiet w)

  spawned_stands : (s : KNode) (c : KCode) (code pool : ℕ) (alias : Option ℕ) (vs : List ℤ) (w : World) → one_has pool code f → ((m : ℕ) → w.given < m → live_focus m f ≡ 0) → focus_stands f → Fine (spawned n root body f s c code pool alias vs w)
  unfolding pools_stand
  spawned_stands s c code pool alias vs w one low h = go (free_place pool f) refl
    where
      at : (place : ℕ) → free_place pool f ≡ Some place → (b : Bool)
          → Fine (if b then moved (Fails (SpawnCount, s.pos) (plug f Over)) w else moved (Raises (plug (seated (record { pool = pool; place = place; code = code; number = w.given + 1 }) (Run (n + 1) (Begin c.body)) f) (Run n (Finish s (pos 0)))))
          (marked (mark.Push (n + 1)) (marked (mark.Spawned (w.given + 1)) (set_parameters (InstanceBody (w.given + 1)) c.params vs (set_alias body alias (Names (w.given + 1)) (record w { given = w.given + 1; living = (w.given + 1) ∷ w.living }))))))
      at place e true = plugged f Over h tt
      at place e false = plugged _ (Run n (Finish s (pos 0))) (one_stands (record { pool = pool; place = place; code = code; number = w.given + 1 }) (Run (n + 1) (Begin c.body)) f one e tt (λ m l. low m (omega (arith, l))) h) tt

      go : (o : Option ℕ) → free_place pool f ≡ o → Fine (elim o [
        | None ↦ answered root f Past (marked mark.Full (set_alias body alias NotSet w))
        | Some place ↦ spawned_at n body f s c code pool place alias vs w
      ])
      go None e = answered_fine root f Past _ h tt
      go (Some place) e = at place e (w.given == 4294967295)

  does_stands : (d : Does) (w : World) → Fresh d → SpawnFine f d → ((m : ℕ) → w.given < m → live_focus m f ≡ 0) → focus_stands f → OutcomeStands (does_in K n root body f d w).outcome
  unfolding pools_stand
  does_stands (does.Opens x) w h k low st = grafted f x st h.1
  does_stands (does.Waits r) w h k low st = plugged f r st h.1
  does_stands does.Passes w h k low st = answered_fine root f Past w st tt
  does_stands (does.Leaves node x) w h k low st = answered_fine root f (Leaves node x) w st tt
  does_stands (does.Registers s) w h k low st = answered_fine root f (Registers s) w st tt
  does_stands does.Ends w h k low st = answered_fine root f AtBlockEnd w st tt
  does_stands does.Heads w h k low st = answered_fine root f AtLoopHead w st tt
  does_stands (does.Emits s event v) w h k low st = woken_stand (by_event (n + 1) event v) (by_event_calm (n + 1) event v) (event_code event K.events) f (Run n (Finish s (pos 0))) st tt
  does_stands (does.Spawns s c code pool alias vs) w h k low st = spawned_stands s c code pool alias vs w k low st
  does_stands (does.Kills j) w h k low st = answered_fine root (unseat j f) Past (killed j f w) (unseat_stands j f st) tt
  does_stands (does.Fails e) w h k low st = plugged f Over st tt

module _ (K : Kernel) (n : ℕ) (root : Body) (f : Focus Act) (w : World) (spawns : SpawnFine f (acted K n (body_of f root) (leaf f) w).does) where
  pub stepped_moves : (p : ℕ) → Moves p w (live_focus p f) (stepped K n root f w).world (left_whole p (stepped K n root f w).outcome)
  unfolding stepped
  stepped_moves p =
      let a = acted_fresh w K n (body_of f root) (leaf f) in
      let d = acted K n (body_of f root) (leaf f) w in
      moves_then p w d.world _ _ (live_focus p f) _ (moves_kept p w d.world _ _ (kept_same p w d.world (live_focus p f) a.quiet)) (does_moves K n root (body_of f root) f p d.does d.world a.fresh spawns)

  pub stepped_stands : ((m : ℕ) → w.given < m → live_focus m f ≡ 0) → focus_stands f → OutcomeStands (stepped K n root f w).outcome
  unfolding stepped
  stepped_stands low st =
      let a = acted_fresh w K n (body_of f root) (leaf f) in
      let d = acted K n (body_of f root) (leaf f) w in
      does_stands K n root (body_of f root) f d.does d.world a.fresh spawns (λ m l. low m (let e = a.quiet.given in omega (arith, l, e))) st
