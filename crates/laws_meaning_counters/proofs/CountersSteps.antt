-- One step of a trail keeps the counters of open loops.
use Rattle.std.proofs.Common.{◌≡◌, refl, sym, ap, ◌∙◌, subst, ◌≤◌, ◌<◌, ℕ, suc, ◌+◌, ℤ, pos, nat_lt, Bool, true, false, if◌then◌else◌, ◌==◌, ◌⊎◌, inl, inr, List, ◌∷◌, Option, Some, None, arith, eqb-true}
use Rattle.std.proofs.lemmas.Bool.{cases_lt, false≢true}
use Rattle.ceu_base.specs.declared.kinds.Fault.TheVariants.{SpawnCount}
use Rattle.ceu_base.specs.declared.kinds.Mark.TheVariants as mark
use Rattle.ceu_tree.specs.declared.kernel.Kernel.{Kernel}
use Rattle.ceu_tree.specs.declared.kernel.KCode.{KCode}
use Rattle.ceu_tree.specs.declared.kernel.KNode.{KNode}
use Rattle.ceu_tree.specs.declared.kernel.KBlock.{KBlock, out-KBlock}
use Rattle.ceu_tree.specs.declared.kernel.KStmt.{out-KStmt}
use Rattle.ceu_tree.specs.Residual.{Body, Spawned as InstanceBody, Act, Begin, Start, Finish, AtEnd, AtHead, Again, Seat, Residual, Over, Run, WaitEvent, Instances, no_instance, instance}
use Rattle.ceu_tree.specs.Focus.{Frame, OfBlock, OfInstance, OfOpen, OfLoop, OfCall, OfPar, Focus, Here, In, plug, graft, leaf, body_in, body_of}
use Rattle.ceu_tree.specs.World.{World, Cell, NotSet, Names, marked, set_alias, set_parameters, dead}
use Rattle.ceu_tree.specs.Abort.{aborted}
use Rattle.ceu_tree.specs.Wake.{by_event}
use Rattle.ceu_tree.specs.Leaf as does
use Rattle.ceu_tree.specs.Leaf.{Does, acted, code_at}
use Rattle.ceu_tree.specs.Around.{Outcome, Goes, Rests, Raises, Fails, Past, Registers, AtBlockEnd, AtLoopHead, Leaves, Moved, moved, answered}
use Rattle.ceu_tree.specs.Step.{event_code, size_in, free_place, with_instance, seated_if, seat_frame, seated, spawned_at, spawned, unseated, unseat_frame, unseat, killed_in, kill_frame, killed, does_in, stepped}
use Rattle.ceu_tree.specs.Numbering.{decl_slots}
use Rattle.ceu_tree.specs.Proper.{Scope, is_proper}
use Rattle.laws_meaning_basics.specs.Shape.{Part, AllFit, none_lives, one_lives, FrameFits, around_statement, around_end, around_instance, around_part, around_turn, around_call, around_branch, Around, nothing_around, one_around, TurnFits, Comes}
use Rattle.laws_meaning_basics.proofs.Static.{code_static}
use Rattle.laws_meaning_basics.proofs.UpFits.{Sound, no_finalizer}
use Rattle.laws_meaning_basics.proofs.LeafFits.{pauses_no_finalizer, Pausing, DoesFit, acted_fits}
use Rattle.laws_meaning_basics.proofs.StepFits.{Closed, around_sound, unseated_around}
use Rattle.laws_meaning_values.proofs.UpValues.{is_head_outcome}
use Rattle.laws_meaning_instances.proofs.Living.{often}
use Rattle.laws_meaning_counters.specs.Counters.{loops_stand, all_loops_stand, frame_loops_stand, is_first, at_loop, focus_loops_stand}
use Rattle.laws_meaning_counters.proofs.Cells.{cell_in, apart_from, forget_body_apart, set_alias_apart, set_parameters_apart}
use Rattle.laws_meaning_counters.proofs.Grips.{point, grip, grip_all, frame_grip, focus_grip, focus_settled, unseat_frame_less, unseat_body, unseat_less}
use Rattle.laws_meaning_counters.proofs.CountersTrees.{plugged, grafted, woken_kept}
use Rattle.laws_meaning_counters.proofs.Marks.{kernel_marks}
use Rattle.laws_meaning_counters.proofs.Clear.{Clear, code_clear, around_clear}
use Rattle.laws_meaning_counters.proofs.Aborts.{not_body, aborted_kept}
use Rattle.laws_meaning_counters.proofs.Up.{OutcomeStands, Moves, answered_moves}
use Rattle.laws_meaning_counters.proofs.Leaf.{DoesStand, acted_done}

abbrev pub is_heads : Does → Bool
is_heads does.Heads = true
is_heads y = false

pub head_does : (K : Kernel) (n : ℕ) (here : Body) (a : Act) (w : World) → is_first a ≡ true → is_heads (acted K n here a w).does ≡ true
head_does K n here AtHead w h = refl
head_does K n here (Begin c) w h = absurd (false≢true h)
head_does K n here (Start s) w h = absurd (false≢true h)
head_does K n here (Finish s v) w h = absurd (false≢true h)
head_does K n here AtEnd w h = absurd (false≢true h)
head_does K n here Again w h = absurd (false≢true h)

pub not_first : (f : Focus Act) (y : Does) → (is_first (leaf f) ≡ true → is_heads y ≡ true) → is_heads y ≡ false → is_first (leaf f) ≡ false
not_first f y h e = go (is_first (leaf f)) refl
  where
    go : (t : Bool) → is_first (leaf f) ≡ t → t ≡ false
    go false q = refl
    go true q = absurd (false≢true (sym e ∙ h q))

-- a statement that spawns is gone past
pub pausing_past : (K : Kernel) (proper : is_proper K ≡ true) (n : ℕ) {e : Part} {s : KNode} → Pausing K proper n e s → Comes K n e Past
pausing_past K proper n {s = s} z = subst (λ y. Comes K n y Past) (sym z.is) (no_finalizer s (out-KStmt s.stmt) refl (pauses_no_finalizer (out-KStmt s.stmt) z.pausing))

module _ (b : Body) (x : ℕ) (cell : Option Cell) where
  by_event_stands : (level event : ℕ) (v : ℤ) (here : Body) (r : Residual) → loops_stand b x cell here r → loops_stand b x cell here (by_event level event v r)
  unfolding loops_stand
  by_event_stands level event v here (WaitEvent e s) h = go (e == event)
    where
      go : (t : Bool) → loops_stand b x cell here (if t then Run level (Finish s v) else WaitEvent e s)
      go true = tt
      go false = tt
  by_event_stands level event v here r h = h

  -- ---- a new instance, in which no loop is open

  with_stands : (seat : Seat) (level : ℕ) (c : KBlock) (all : Instances) → all_loops_stand b x cell all → all_loops_stand b x cell (with_instance seat (Run level (Begin c)) all)
  unfolding loops_stand
  with_stands seat level c no_instance h = (tt, tt)
  with_stands seat level c (instance other q more) h = go (nat_lt seat.pool other.pool) (with_stands seat level c more h.1)
    where
      go : (t : Bool) → all_loops_stand b x cell (with_instance seat (Run level (Begin c)) more)
          → all_loops_stand b x cell (if t then instance seat (Run level (Begin c)) (instance other q more) else instance other q (with_instance seat (Run level (Begin c)) more))
      go true ih = (tt, h)
      go false ih = (h.0, ih)

  seat_if : (o : Option ℕ) (seat : Seat) (level : ℕ) (c : KBlock) (all : Instances) → all_loops_stand b x cell all → all_loops_stand b x cell (seated_if o seat (Run level (Begin c)) all)
  seat_if None seat level c all h = h
  seat_if (Some m) seat level c all h = with_stands seat level c all h

  frame_seated : (t : Bool) (seat : Seat) (level : ℕ) (c : KBlock) (here : Body) (fr : Frame) → frame_loops_stand b x cell t here fr → frame_loops_stand b x cell t here (seat_frame seat (Run level (Begin c)) fr)
  frame_seated t seat level c here (OfBlock m fin all rest) h = seat_if (size_in seat.pool (out-KBlock m).decls) seat level c all h
  frame_seated t seat level c here (OfInstance m fin front other back r rest) h = h
  frame_seated t seat level c here (OfOpen s) h = h
  frame_seated t seat level c here (OfLoop s j) h = h
  frame_seated t seat level c here (OfCall s) h = h
  frame_seated t seat level c here (OfPar s front back) h = h

  seat_body : (seat : Seat) (r : Residual) (here : Body) (fr : Frame) → body_in (seat_frame seat r fr) here ≡ body_in fr here
  seat_body seat r here (OfBlock m fin all rest) = refl
  seat_body seat r here (OfInstance m fin front other back q rest) = refl
  seat_body seat r here (OfOpen s) = refl
  seat_body seat r here (OfLoop s j) = refl
  seat_body seat r here (OfCall s) = refl
  seat_body seat r here (OfPar s front back) = refl

  seat_flag : (seat : Seat) (r : Residual) (f : Focus Act) → at_loop is_first (seated seat r f) ≡ at_loop is_first f
  seat_flag seat r (Here a) = refl
  seat_flag seat r (In fr f) = refl

  seat_leaf : (seat : Seat) (r : Residual) (f : Focus Act) → leaf (seated seat r f) ≡ leaf f
  seat_leaf seat r (Here a) = refl
  seat_leaf seat r (In fr f) = seat_leaf seat r f

  seated_stands : (seat : Seat) (level : ℕ) (c : KBlock) (here : Body) (f : Focus Act) → focus_loops_stand b x cell is_first here f → focus_loops_stand b x cell is_first here (seated seat (Run level (Begin c)) f)
  unfolding focus_loops_stand
  seated_stands seat level c here (Here a) h = tt
  seated_stands seat level c here (In fr f) h = (
    subst (λ t. frame_loops_stand b x cell t here (seat_frame seat (Run level (Begin c)) fr)) (sym (seat_flag seat (Run level (Begin c)) f)) (frame_seated (at_loop is_first f) seat level c here fr h.0),
    subst (λ d. focus_loops_stand b x cell is_first d (seated seat (Run level (Begin c)) f)) (sym (seat_body seat (Run level (Begin c)) here fr)) (seated_stands seat level c (body_in fr here) f h.1),
  )

  -- ---- an instance that is taken out

  unseated_stand : (k : ℕ) (all : Instances) → all_loops_stand b x cell all → all_loops_stand b x cell (unseated k all)
  unfolding loops_stand
  unseated_stand k no_instance h = tt
  unseated_stand k (instance seat r more) h = go (seat.number == k) (unseated_stand k more h.1)
    where
      go : (t : Bool) → all_loops_stand b x cell (unseated k more) → all_loops_stand b x cell (if t then more else instance seat r (unseated k more))
      go true ih = h.1
      go false ih = (h.0, ih)

  unseat_frame_stands : (t : Bool) (k : ℕ) (here : Body) (fr : Frame) → frame_loops_stand b x cell t here fr → frame_loops_stand b x cell t here (unseat_frame k fr)
  unseat_frame_stands t k here (OfBlock m fin all rest) h = unseated_stand k all h
  unseat_frame_stands t k here (OfInstance m fin front other back r rest) h = h
  unseat_frame_stands t k here (OfOpen s) h = h
  unseat_frame_stands t k here (OfLoop s j) h = h
  unseat_frame_stands t k here (OfCall s) h = h
  unseat_frame_stands t k here (OfPar s front back) h = h

  unseat_flag : (k : ℕ) (f : Focus Act) → at_loop is_first (unseat k f) ≡ at_loop is_first f
  unseat_flag k (Here a) = refl
  unseat_flag k (In fr f) = refl

  unseat_stands : (k : ℕ) (here : Body) (f : Focus Act) → focus_loops_stand b x cell is_first here f → focus_loops_stand b x cell is_first here (unseat k f)
  unfolding focus_loops_stand
  unseat_stands k here (Here a) h = tt
  unseat_stands k here (In fr f) h = (
    subst (λ t. frame_loops_stand b x cell t here (unseat_frame k fr)) (sym (unseat_flag k f)) (unseat_frame_stands (at_loop is_first f) k here fr h.0),
    subst (λ d. focus_loops_stand b x cell is_first d (unseat k f)) (sym (unseat_body b x k here fr)) (unseat_stands k (body_in fr here) f h.1),
  )

pub unseat_leaf : (k : ℕ) (f : Focus Act) → leaf (unseat k f) ≡ leaf f
unseat_leaf k (Here a) = refl
unseat_leaf k (In fr f) = unseat_leaf k f

module _ (K : Kernel) (proper : is_proper K ≡ true) (b : Body) (x : ℕ) (clean : kernel_marks true x K ≡ 0) (n : ℕ) where
  -- a kill of an instance that has no hold of the slot
  all_killed : {t : ℕ} {sc : Scope} {all : Instances} (k : ℕ) → AllFit K t sc all → (w : World) → grip_all b x (unseated k all) ≡ grip_all b x all → cell_in b x (killed_in k all w) ≡ cell_in b x w
  unfolding grip
  all_killed k none_lives w h = refl
  all_killed k (one_lives {seat = seat} {r = r} {more = more} c p e fit rest) w h = go (seat.number == k) refl h (all_killed k rest w)
    where
      go : (t : Bool) → (seat.number == k) ≡ t → grip_all b x (if t then more else instance seat r (unseated k more)) ≡ point b x (InstanceBody seat.number) + grip b x (InstanceBody seat.number) r + grip_all b x more
          → (grip_all b x (unseated k more) ≡ grip_all b x more → cell_in b x (killed_in k more w) ≡ cell_in b x w) → cell_in b x (if t then dead k (aborted r (InstanceBody k) w) else killed_in k more w) ≡ cell_in b x w
      go true q z ih =
          subst (λ j. cell_in b x (dead j (aborted r (InstanceBody j) w)) ≡ cell_in b x w) (eqb-true seat.number k q)
          (forget_body_apart b x (InstanceBody seat.number) (aborted r (InstanceBody seat.number) w) (not_body b x (InstanceBody seat.number) (omega (arith, z))) ∙
          aborted_kept K proper b x clean fit (code_static K seat.code c proper e) (code_clear b x K clean seat.code c e) (InstanceBody seat.number) w (omega (arith, z)))
      go false q z ih = ih (omega (arith, z))

  frame_killed : {t : ℕ} {fr : Frame} {d e : Part} (k : ℕ) (here : Body) → FrameFits K t fr d e → (w : World) → frame_grip b x here (unseat_frame k fr) ≡ frame_grip b x here fr → cell_in b x (kill_frame k fr w) ≡ cell_in b x w
  frame_killed k here (around_statement done e f all) w h = all_killed k all w h
  frame_killed k here (around_end f all) w h = all_killed k all w h
  frame_killed k here (around_instance done c e f r front back p q) w h = refl
  frame_killed k here (around_part c o) w h = refl
  frame_killed k here (around_turn l c e q) w h = refl
  frame_killed k here (around_call c es f t m e z) w h = refl
  frame_killed k here (around_branch kind slot bs c cs e y z) w h = refl

  killed_kept : {t : ℕ} (k : ℕ) (here : Body) (f : Focus Act) (d e : Part) → Around K t Act f d e → (w : World) → focus_grip b x here (unseat k f) ≡ focus_grip b x here f → cell_in b x (killed k f w) ≡ cell_in b x w
  unfolding focus_grip
  killed_kept k here (Here a) d e nothing_around w h = refl
  killed_kept k here (In fr f) d e (one_around {e = c} a more) w h =
      let s = ap (λ y. focus_grip b x y (unseat k f)) (unseat_body b x k here fr) in
      let u = unseat_frame_less b x k here fr in
      let v = unseat_less b x k (body_in fr here) f in
      killed_kept k (body_in fr here) f c e more (kill_frame k fr w) (omega (arith, h, s, u, v)) ∙ frame_killed k here a w (omega (arith, h, s, u, v))

  unseat_body_of : (k : ℕ) (here : Body) (f : Focus Act) → body_of (unseat k f) here ≡ body_of f here
  unseat_body_of k here (Here a) = refl
  unseat_body_of k here (In fr f) = ap (body_of (unseat k f)) (unseat_body b x k here fr) ∙ unseat_body_of k (body_in fr here) f

  module _ (root : Body) (f : Focus Act) (d e : Part) (o : ℕ) (q : Closed K proper d) (a : Around K (suc n) Act f d e) (ok : Sound K proper d) (cl : Clear b x K clean d) (p : point b x root ≤ o) (l : o + focus_grip b x root f ≤ 3) where
    abbrev Fine : World → Moved → Type 0
    Fine w m = Moves K proper b x clean n root (focus_grip b x root f) w m

    abbrev Stand : World → Type 0
    Stand w = focus_loops_stand b x (cell_in b x w) is_first root f

    stays : (w u : World) (y : Outcome) → OutcomeStands K proper b x clean n (cell_in b x u) root y → cell_in b x u ≡ cell_in b x w → Fine w (moved y u)
    stays w u y h z = record { stands = h; kept = λ v. z }

    spawned_moves : (s : KNode) (c : KCode) (code pool : ℕ) (alias : Option ℕ) (vs : List ℤ) (w : World) → Pausing K proper n e s → is_first (leaf f) ≡ false → apart_from b x alias → often x (decl_slots c.params) ≡ 0 → Stand w
        → Fine w (spawned n root (body_of f root) f s c code pool alias vs w)
    unfolding loops_stand
    spawned_moves s c code pool alias vs w z first h1 h2 st = go (free_place pool f)
      where
        body : Body
        body = body_of f root

        empty : World
        empty = set_alias body alias NotSet w

        same : cell_in b x empty ≡ cell_in b x w
        same = set_alias_apart b x body alias NotSet w h1

        at : (place : ℕ) → Fine w (spawned_at n body f s c code pool place alias vs w)
        at place = inner (w.given == 4294967295)
          where
            number : ℕ
            number = w.given + 1

            seat : Seat
            seat = record { pool = pool; place = place; code = code; number = number }

            v : World
            v = set_alias body alias (Names number) (record w { given = number; living = number ∷ w.living })

            u : World
            u = set_parameters (InstanceBody number) c.params vs v

            unchanged : cell_in b x u ≡ cell_in b x w
            unchanged = set_parameters_apart b x (InstanceBody number) c.params vs v h2 ∙ set_alias_apart b x body alias (Names number) (record w { given = number; living = number ∷ w.living }) h1

            inner : (t : Bool)
                → Fine w (if t then moved (Fails (SpawnCount, s.pos) (plug f Over)) w else moved (Raises (plug (seated seat (Run (n + 1) (Begin c.body)) f) (Run n (Finish s (pos 0))))) (marked (mark.Push (n + 1)) (marked (mark.Spawned number) u)))
            inner true = stays w w (Fails (SpawnCount, s.pos) (plug f Over)) tt refl
            inner false =
                stays w (marked (mark.Push (n + 1)) (marked (mark.Spawned number) u)) (Raises (plug (seated seat (Run (n + 1) (Begin c.body)) f) (Run n (Finish s (pos 0)))))
                (plugged b x (cell_in b x u) is_first root (seated seat (Run (n + 1) (Begin c.body)) f) (Run n (Finish s (pos 0))) (ap is_first (seat_leaf b x (cell_in b x u) seat (Run (n + 1) (Begin c.body)) f) ∙ first)
                (seated_stands b x (cell_in b x u) seat (n + 1) c.body root f (subst (λ y. focus_loops_stand b x y is_first root f) (sym unchanged) st)) tt) unchanged

        go : (y : Option ℕ) → Fine w (elim y [
          | None ↦ answered root f Past (marked mark.Full (set_alias body alias NotSet w))
          | Some place ↦ spawned_at n body f s c code pool place alias vs w
        ])
        go None =
            let m = answered_moves K proper b x clean n root f Past (marked mark.Full empty) d e o q a ok cl p l (subst (λ y. focus_loops_stand b x y is_first root f) (sym same) st) tt (λ y. absurd (false≢true (sym first ∙ y))) (pausing_past K proper n z) in
            record { stands = m.stands; kept = λ y. m.kept y ∙ same }
        go (Some place) = at place

    kills_moves : (k : ℕ) (w : World) → Comes K n e Past → is_first (leaf f) ≡ false → Stand w → Fine w (answered root (unseat k f) Past (killed k f w))
    kills_moves k w c first st =
        let less = unseat_less b x k root f in
        let m = answered_moves K proper b x clean n root (unseat k f) Past (killed k f w) d e o q (unseated_around K proper (suc n) k a) ok cl p (omega (arith, l, less)) (after (cases_lt 2 (point b x root + focus_grip b x root (unseat k f)))) tt
        (λ y. absurd (false≢true (sym first ∙ ap is_first (sym (unseat_leaf k f)) ∙ y))) c in
        record { stands = m.stands; kept = λ y. m.kept (omega (arith, less, y)) ∙ killed_kept k root f d e a w (omega (arith, less, y)) }
      where
        after : (2 < point b x root + focus_grip b x root (unseat k f)) ⊎ (point b x root + focus_grip b x root (unseat k f) ≤ 2) → focus_loops_stand b x (cell_in b x (killed k f w)) is_first root (unseat k f)
        after (inl y) =
            subst (λ z. focus_loops_stand b x z is_first root (unseat k f)) (sym (killed_kept k root f d e a w (let less = unseat_less b x k root f in omega (arith, less, l, p, y)))) (unseat_stands b x (cell_in b x w) k root f st)
        after (inr y) = focus_settled b x (cell_in b x (killed k f w)) is_first root (unseat k f) y

    answers : (y : Outcome) (w : World) → Comes K n e y → OutcomeStands K proper b x clean n (cell_in b x w) (body_of f root) y → (is_first (leaf f) ≡ true → is_head_outcome y ≡ true) → Stand w → Fine w (answered root f y w)
    answers y w c h hd st = answered_moves K proper b x clean n root f y w d e o q a ok cl p l st h hd c

    does_moves : (y : Does) (w : World) → DoesFit K proper n e y → DoesStand K proper b x clean n (cell_in b x w) (body_of f root) y → (is_first (leaf f) ≡ true → is_heads y ≡ true) → Stand w → Fine w (does_in K n root (body_of f root) f y w)
    unfolding loops_stand
    does_moves (does.Opens y) w c h hd st = stays w w (Goes (graft f y)) (grafted b x (cell_in b x w) is_first is_first root f y (not_first f (does.Opens y) hd refl) st h) refl
    does_moves (does.Waits r) w c h hd st = stays w w (Rests (plug f r)) (plugged b x (cell_in b x w) is_first root f r (not_first f (does.Waits r) hd refl) st h) refl
    does_moves does.Passes w c h hd st = answers Past w c tt (λ u. absurd (false≢true (hd u))) st
    does_moves (does.Leaves node z) w c h hd st = answers (Leaves node z) w c tt (λ u. absurd (false≢true (hd u))) st
    does_moves (does.Registers s) w c h hd st = answers (Registers s) w c tt (λ u. absurd (false≢true (hd u))) st
    does_moves does.Ends w c h hd st = answers AtBlockEnd w c tt (λ u. absurd (false≢true (hd u))) st
    does_moves does.Heads w c h hd st = answers AtLoopHead w c tt (λ u. refl) st
    does_moves (does.Emits s event v) w c h hd st =
        stays w (marked (mark.Push (n + 1)) w) _
        (woken_kept b x (cell_in b x w) (by_event (n + 1) event v) (by_event_stands b x (cell_in b x w) (n + 1) event v) (event_code event K.events) is_first root f (Run n (Finish s (pos 0))) (not_first f (does.Emits s event v) hd refl) st tt) refl
    does_moves (does.Spawns s m code pool alias vs) w c h hd st = spawned_moves s m code pool alias vs w c.0 (not_first f (does.Spawns s m code pool alias vs) hd refl) h.0 h.1 st
    does_moves (does.Kills k) w c h hd st = kills_moves k w c (not_first f (does.Kills k) hd refl) st
    does_moves (does.Fails z) w c h hd st = stays w w (Fails z (plug f Over)) tt refl

  pub stepped_moves : (root : Body) (f : Focus Act) (w : World) (d : Part) (o : ℕ) → Closed K proper d → TurnFits K (suc n) d f → Sound K proper d → Clear b x K clean d → point b x root ≤ o → o + focus_grip b x root f ≤ 3
      → focus_loops_stand b x (cell_in b x w) is_first root f → Moves K proper b x clean n root (focus_grip b x root f) w (stepped K n root f w)
  unfolding stepped
  stepped_moves root f w d o q t ok cl p l st =
      let m = acted K n (body_of f root) (leaf f) w in
      let sound = around_sound K proper t.around ok in
      let z = acted_done K proper b x clean n (body_of f root) t.part (leaf f) w sound (around_clear b x K clean t.around cl) t.acts in
      let r = does_moves root f d t.part o q t.around ok cl p l m.does m.world (acted_fits K proper n (body_of f root) t.part (leaf f) w sound t.acts) z.stands (head_does K n (body_of f root) (leaf f) w)
      (subst (λ y. focus_loops_stand b x y is_first root f) (sym z.same) st) in
      record { stands = r.stands; kept = λ u. r.kept u ∙ z.same }
