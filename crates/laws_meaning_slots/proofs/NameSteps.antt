-- One step of a trail keeps which instances aliases name: of their code, in one of their pools, and of their body.
use Rattle.std.proofs.Common.{◌≡◌, refl, sym, ap, subst, ◌≤◌, ℕ, ◌+◌, ℤ, pos, Bool, true, false, not, if◌then◌else◌, ◌==◌, ◌||◌, nat_le, List, [], ◌∷◌, Option, Some, None, arith, eqb-true}
use Rattle.std.proofs.lemmas.Bool.{and_parts, and_from, or_right, le-leb, leb-true}
use Rattle.std.specs.List.{list_all}
use Rattle.ceu_base.specs.declared.kinds.Fault.TheVariants.{SpawnCount}
use Rattle.ceu_base.specs.declared.kinds.Mark.TheVariants as mark
use Rattle.ceu_tree.specs.declared.kernel.Kernel.{Kernel}
use Rattle.ceu_tree.specs.declared.kernel.KCode.{KCode}
use Rattle.ceu_tree.specs.declared.kernel.KNode.{KNode}
use Rattle.ceu_tree.specs.Residual.{Body, Spawned as InstanceBody, same_body, Act, Begin, Finish, Seat, Residual, Over, Run, WaitEvent}
use Rattle.ceu_tree.specs.Focus.{Frame, OfBlock, Focus, Here, In, plug, leaf, body_in, body_of}
use Rattle.ceu_tree.specs.World.{World, Cell, NotSet, Names, Held, marked, set_alias, set_parameters}
use Rattle.ceu_tree.specs.Wake.{by_event}
use Rattle.ceu_tree.specs.Leaf as does
use Rattle.ceu_tree.specs.Leaf.{Does, acted}
use Rattle.ceu_tree.specs.Around.{Outcome, Goes, Rests, Raises, Fails, Past, Registers, AtBlockEnd, AtLoopHead, Leaves, Moved, moved, answered}
use Rattle.ceu_tree.specs.Step.{event_code, free_place, seated, spawned_at, unseat, killed, does_in, stepped}
use Rattle.ceu_tree.specs.Legal.{Seated, seats}
use Rattle.ceu_tree.specs.Proper.{alias_takes}
use Rattle.laws_meaning_instances.proofs.Living.{quiet_then}
use Rattle.laws_meaning_instances.proofs.Leaf.{set_alias_quiet, set_parameters_quiet, acted_fresh}
use Rattle.laws_meaning_values.proofs.Stores.{same_self}
use Rattle.laws_meaning_slots.proofs.Slots.{once}
use Rattle.laws_meaning_slots.proofs.Values.{held, lie_put}
use Rattle.laws_meaning_slots.proofs.Aborts.{LieIn}
use Rattle.laws_meaning_slots.proofs.Given.{does_given}
use Rattle.laws_meaning_slots.specs.Declared.{rows, kind_at}
use Rattle.laws_meaning_slots.proofs.Kept.{is_name, set_keeps, parameters_keep, killed_keeps, answered_keeps, acted_keeps}
use Rattle.laws_meaning_slots.proofs.Seats.{at_seat, each_seat, focus_seats, Calm, plug_seats, unplug_seats, graft_seats, woken_seats, unseat_seats, frame_takes, focus_takes, seated_seats}
use Rattle.laws_meaning_slots.proofs.SeatsUp.{OutcomeSeats, Fresh, answered_seats, acted_seats}
use Rattle.laws_meaning_slots.proofs.Homed.{frame_homed, homed}
use Rattle.laws_meaning_slots.specs.Names.{names, low, suits, one, agrees}
use Rattle.laws_meaning_slots.proofs.Agree.{names_number, plain_agrees, listed, seated_list, tests_more}

-- a block around the leaf that has the pool is of the leaf's body
takes_homed : (P : Seated → Type 0) (seat : Seat) (r : Residual) (inside : each_seat P r (InstanceBody seat.number)) (f : Focus Act) (body home : Body)
    → homed seat.pool f body home → P (at_seat seat home) → focus_takes P seat r inside f body
unfolding homed focus_takes
takes_homed P seat r inside (Here a) body home h p = tt
takes_homed P seat r inside (In fr f) body home h p = (frame fr h.0, takes_homed P seat r inside f (body_in fr body) home h.1 p)
  where
    frame : (fr : Frame) → frame_homed seat.pool fr body home → frame_takes P seat r inside fr body
    frame (OfBlock b fin all rest) q = λ n e. subst (λ x. P (at_seat seat x)) (sym (q n e)) p
    frame fr q = tt

by_event_seats : (P : Seated → Type 0) (level event : ℕ) (v : ℤ) → Calm P (by_event level event v)
unfolding each_seat
by_event_seats P level event v (WaitEvent e s) body h = go (e == event)
  where
    go : (b : Bool) → each_seat P (if b then Run level (Finish s v) else WaitEvent e s) body
    go true = tt
    go false = tt
by_event_seats P level event v r body h = h

-- the seats of what an outcome leaves
abbrev pub out_seats : Outcome → Body → List Seated
out_seats (Goes g) root = seats (plug g Over) root
out_seats (Rests r) root = seats r root
out_seats (Raises r) root = seats r root
out_seats x root = []

out_listed : (q : Seated → Bool) (x : Outcome) (root : Body) → OutcomeSeats (λ s. q s ≡ true) x root → list_all q (out_seats x root) ≡ true
unfolding each_seat
out_listed q (Goes g) root h = seated_list q (plug g Over) root (plug_seats (λ s. q s ≡ true) g Over root h tt)
out_listed q (Rests r) root h = seated_list q r root h
out_listed q (Raises r) root h = seated_list q r root h
out_listed q x root h = refl

module _ (K : Kernel) where
  abbrev pub alias_known : (code pool : ℕ) → Option ℕ → Type 0
  alias_known code pool None = Unit {0}
  alias_known code pool (Some a) = alias_takes code pool (kind_at a (rows K)) ≡ true

  abbrev pub SpawnKnown : Focus Act → Body → Does → Type 0
  SpawnKnown f root (does.Spawns s c code pool alias vs) = homed pool f root (body_of f root) × alias_known code pool alias
  SpawnKnown f root d = Unit {0}

  module _ (n : ℕ) (root : Body) (f : Focus Act) where
    abbrev pub Before : World → Type 0
    Before w = LieIn (λ h. once (agrees K w.given (seats (plug f Over) root) h)) w

    abbrev pub After : Moved → Type 0
    After m = LieIn (λ h. once (agrees K m.world.given (out_seats m.outcome root) h)) m.world

    -- a step in which nothing is spawned
    plainly : (w : World) (m : Moved) → w.given ≤ m.world.given → ((P : Seated → Type 0) → focus_seats P f root → OutcomeSeats P m.outcome root)
        → ((c : Held → ℕ) → ((b : Body) (s : ℕ) (x : Cell) → is_name x ≡ false → 1 ≤ c (held b s x)) → LieIn c w → LieIn c m.world) → Before w → After m
    plainly w m more still kept h =
        let g = m.world.given in
        let found = out_seats m.outcome root in
        kept (λ k. once (agrees K g found k)) (plain_agrees K g found) (tests_more (agrees K w.given (seats (plug f Over) root)) (agrees K g found) on w.values h)
      where
        lower : (c : Cell) → low w.given c ≡ true → low m.world.given c ≡ true
        lower (Names k) e = le-leb k m.world.given (let z = leb-true k w.given e in omega (arith, z, more))
        lower c e = refl

        on : (k : Held) → agrees K w.given (seats (plug f Over) root) k ≡ true → agrees K m.world.given (out_seats m.outcome root) k ≡ true
        on k e =
            let a = and_parts (low w.given k.cell) (list_all (one K k) (seats (plug f Over) root)) e in
            let s = unplug_seats (λ x. one K k x ≡ true) f Over root (listed (one K k) (plug f Over) root a.1) in
            and_from (low m.world.given k.cell) (list_all (one K k) (out_seats m.outcome root)) (lower k.cell a.0) (out_listed (one K k) m.outcome root (still (λ x. one K k x ≡ true) s.0))

    -- ---- a spawn

    new_one : (g : ℕ) (k : Held) (x : Seated) → low g k.cell ≡ true → x.seat.number ≡ g + 1 → one K k x ≡ true
    new_one g k x e q = ap (λ b. not b || suits K k x) (names_number k.cell g x.seat.number e (omega (arith, q)))

    old_one : (g number : ℕ) (b : Body) (a : ℕ) (x : Seated) → nat_le x.seat.number g ≡ true → number ≡ g + 1 → one K (held b a (Names number)) x ≡ true
    old_one g number b a x e q = go (x.seat.number == number) refl
      where
        go : (t : Bool) → (x.seat.number == number) ≡ t → (not t || suits K (held b a (Names number)) x) ≡ true
        go false z = refl
        go true z = absurd (let y = eqb-true x.seat.number number z in let l = leb-true x.seat.number g e in omega (arith, y, l, q))

    spawned_names : (s : KNode) (c : KCode) (code pool place : ℕ) (alias : Option ℕ) (vs : List ℤ) (w : World) → homed pool f root (body_of f root)
        → alias_known code pool alias → list_all (λ x. nat_le x.seat.number w.given) (seats (plug f Over) root) ≡ true → Before w
        → After (spawned_at n (body_of f root) f s c code pool place alias vs w)
    unfolding each_seat
    spawned_names s c code pool place alias vs w home known few h = go (w.given == 4294967295)
      where
        body : Body
        body = body_of f root

        number : ℕ
        number = w.given + 1

        seat : Seat
        seat = record { pool = pool; place = place; code = code; number = number }

        run : Residual
        run = Run (n + 1) (Begin c.body)

        v : World
        v = record w { given = number; living = number ∷ w.living }

        v1 : World
        v1 = set_alias body alias (Names number) v

        u : World
        u = set_parameters (InstanceBody number) c.params vs v1

        given : u.given ≡ number
        given = (quiet_then v v1 u (set_alias_quiet body alias (Names number) v) (set_parameters_quiet (InstanceBody number) c.params vs v1)).given

        tree : Residual
        tree = plug (seated seat run f) (Run n (Finish s (pos 0)))

        found : List Seated
        found = seats tree root

        still : (q : Seated → Bool) → q (at_seat seat body) ≡ true → list_all q (seats (plug f Over) root) ≡ true → list_all q found ≡ true
        still q p e =
            let P : Seated → Type 0 = λ x. q x ≡ true in
            let a = unplug_seats P f Over root (listed q (plug f Over) root e) in
            seated_list q tree root (plug_seats P (seated seat run f) (Run n (Finish s (pos 0))) root (seated_seats P seat run tt f root (takes_homed P seat run tt f root body home p) a.0) tt)

        m : Held → ℕ
        m k = once (agrees K u.given found k)

        lower : (c : Cell) → low w.given c ≡ true → low u.given c ≡ true
        lower (Names k) e = le-leb k u.given (let z = leb-true k w.given e in let y = given in omega (arith, z, y))
        lower c e = refl

        old : LieIn m w
        old = tests_more (agrees K w.given (seats (plug f Over) root)) (agrees K u.given found) (λ k e. (
            let a = and_parts (low w.given k.cell) (list_all (one K k) (seats (plug f Over) root)) e in
            and_from (low u.given k.cell) (list_all (one K k) found) (lower k.cell a.0) (still (one K k) (new_one w.given k (at_seat seat body) a.0 refl) a.1))) w.values h

        few_names : (a : ℕ) (xs : List Seated) → list_all (λ x. nat_le x.seat.number w.given) xs ≡ true → list_all (one K (held body a (Names number))) xs ≡ true
        few_names a [] e = refl
        few_names a (x ∷ xs) e =
            let z = and_parts (nat_le x.seat.number w.given) (list_all (λ x. nat_le x.seat.number w.given) xs) e in
            and_from (one K (held body a (Names number)) x) (list_all (one K (held body a (Names number))) xs) (old_one w.given number body a x z.0 refl) (few_names a xs z.1)

        new : (a : ℕ) → alias_takes code pool (kind_at a (rows K)) ≡ true → 1 ≤ m (held body a (Names number))
        new a e =
            let suit = and_from (alias_takes code pool (kind_at a (rows K))) (same_body body body) e (same_self body) in
            let first = or_right (not (names (Names number) number)) (suits K (held body a (Names number)) (at_seat seat body)) suit in
            let all = still (one K (held body a (Names number))) first (few_names a (seats (plug f Over) root) few) in
            let z = ap once (and_from (low u.given (Names number)) (list_all (one K (held body a (Names number))) found) (le-leb number u.given (let y = given in omega (arith, y))) all) in omega (arith, z)

        aliased : (o : Option ℕ) → alias_known code pool o → LieIn m (set_alias body o (Names number) v)
        aliased None e = old
        aliased (Some a) e = lie_put m body a (Names number) w.values (new a e) old

        go : (b : Bool)
            → After (if b then moved (Fails (SpawnCount, s.pos) (plug f Over)) w else moved (Raises tree) (marked (mark.Push (n + 1)) (marked (mark.Spawned number) u)))
        go true = tests_more (agrees K w.given (seats (plug f Over) root)) (agrees K w.given []) (λ k e. and_from (low w.given k.cell) true (and_parts (low w.given k.cell) (list_all (one K k) (seats (plug f Over) root)) e).0 refl) w.values h
        go false = parameters_keep m (plain_agrees K u.given found) (InstanceBody number) c.params vs v1 (aliased alias known)

    answers : (w : World) (x : Outcome) (k : World) → w.given ≤ (answered root f x k).world.given → ((P : Seated → Type 0) (b : Body) → OutcomeSeats P x b)
        → ((c : Held → ℕ) → ((b : Body) (s : ℕ) (x : Cell) → is_name x ≡ false → 1 ≤ c (held b s x)) → LieIn c w → LieIn c k) → Before w → After (answered root f x k)
    answers w x k more fine kept h =
        plainly w (answered root f x k) more (λ P s. answered_seats P root f x k s (fine P)) (λ c plain l. answered_keeps c plain root f x k (kept c plain l)) h

    does_names : (d : Does) (w : World) → ((P : Seated → Type 0) → Fresh P d (body_of f root)) → SpawnKnown f root d
        → list_all (λ x. nat_le x.seat.number w.given) (seats (plug f Over) root) ≡ true → Before w → After (does_in K n root (body_of f root) f d w)
    unfolding each_seat
    does_names (does.Opens x) w fresh k few h = plainly w (does_in K n root (body_of f root) f (does.Opens x) w) (does_given K n root (body_of f root) f (does.Opens x) w) (λ P s. graft_seats P f x root s (fresh P)) (λ c plain l. l) h
    does_names (does.Waits r) w fresh k few h = plainly w (does_in K n root (body_of f root) f (does.Waits r) w) (does_given K n root (body_of f root) f (does.Waits r) w) (λ P s. plug_seats P f r root s (fresh P)) (λ c plain l. l) h
    does_names does.Passes w fresh k few h = answers w Past w (does_given K n root (body_of f root) f does.Passes w) (λ P b. tt) (λ c plain l. l) h
    does_names (does.Leaves node x) w fresh k few h = answers w (Leaves node x) w (does_given K n root (body_of f root) f (does.Leaves node x) w) (λ P b. tt) (λ c plain l. l) h
    does_names (does.Registers s) w fresh k few h = answers w (Registers s) w (does_given K n root (body_of f root) f (does.Registers s) w) (λ P b. tt) (λ c plain l. l) h
    does_names does.Ends w fresh k few h = answers w AtBlockEnd w (does_given K n root (body_of f root) f does.Ends w) (λ P b. tt) (λ c plain l. l) h
    does_names does.Heads w fresh k few h = answers w AtLoopHead w (does_given K n root (body_of f root) f does.Heads w) (λ P b. tt) (λ c plain l. l) h
    does_names (does.Emits s event v) w fresh k few h =
        plainly w (does_in K n root (body_of f root) f (does.Emits s event v) w) (does_given K n root (body_of f root) f (does.Emits s event v) w)
        (λ P z. woken_seats P (by_event (n + 1) event v) (by_event_seats P (n + 1) event v) (event_code event K.events) f (Run n (Finish s (pos 0))) root z tt) (λ c plain l. l) h
    does_names (does.Spawns s c code pool alias vs) w fresh k few h = go (free_place pool f) (does_given K n root (body_of f root) f (does.Spawns s c code pool alias vs) w)
      where
        unset : (o : Option ℕ) (m : Held → ℕ) → ((b : Body) (s : ℕ) (x : Cell) → is_name x ≡ false → 1 ≤ m (held b s x)) → LieIn m w
            → LieIn m (set_alias (body_of f root) o NotSet w)
        unset None m plain l = l
        unset (Some a) m plain l = set_keeps m plain (body_of f root) a NotSet w refl l

        more : Moved → Type 0
        more m = w.given ≤ m.world.given

        go : (o : Option ℕ) → more (elim o [
          | None ↦ answered root f Past (marked mark.Full (set_alias (body_of f root) alias NotSet w))
          | Some place ↦ spawned_at n (body_of f root) f s c code pool place alias vs w
        ]) → After (elim o [
          | None ↦ answered root f Past (marked mark.Full (set_alias (body_of f root) alias NotSet w))
          | Some place ↦ spawned_at n (body_of f root) f s c code pool place alias vs w
        ])
        go None l = answers w Past (marked mark.Full (set_alias (body_of f root) alias NotSet w)) l (λ P b. tt) (λ m plain z. unset alias m plain z) h
        go (Some place) l = spawned_names s c code pool place alias vs w k.0 k.1 few h
    does_names (does.Kills j) w fresh k few h =
        plainly w (does_in K n root (body_of f root) f (does.Kills j) w) (does_given K n root (body_of f root) f (does.Kills j) w)
        (λ P s. answered_seats P root (unseat j f) Past (killed j f w) (unseat_seats P j f root s) (λ b. tt)) (λ c plain l. answered_keeps c plain root (unseat j f) Past (killed j f w) (killed_keeps c plain j f w l)) h
    does_names (does.Fails e) w fresh k few h =
        plainly w (does_in K n root (body_of f root) f (does.Fails e) w) (does_given K n root (body_of f root) f (does.Fails e) w) (λ P s. plug_seats P f Over root s tt) (λ c plain l. l) h

    pub stepped_names : (w : World) → SpawnKnown f root (acted K n (body_of f root) (leaf f) w).does
        → list_all (λ x. nat_le x.seat.number w.given) (seats (plug f Over) root) ≡ true → Before w → After (stepped K n root f w)
    unfolding stepped
    stepped_names w k few h =
        let d = acted K n (body_of f root) (leaf f) w in
        let same = (acted_fresh w K n (body_of f root) (leaf f)).quiet.given in
        let h1 = acted_keeps (λ x. once (agrees K w.given (seats (plug f Over) root) x)) (plain_agrees K w.given (seats (plug f Over) root)) K n (body_of f root) (leaf f) w h in
        does_names d.does d.world (λ P. acted_seats P (body_of f root) w K n (leaf f)) k
        (subst (λ g. list_all (λ x. nat_le x.seat.number g) (seats (plug f Over) root) ≡ true) (sym same) few)
        (subst (λ g. LieIn (λ x. once (agrees K g (seats (plug f Over) root) x)) d.world) (sym same) h1)
