-- One step of a trail keeps each value in an open slot.
use Rattle.std.proofs.Common.{◌≡◌, refl, ap, ◌∙◌, subst, ◌≤◌, ℕ, ◌+◌, ℤ, pos, nat_lt, Bool, true, false, if◌then◌else◌, ◌==◌, inl, inr, List, ◌∷◌, Option, Some, None, arith, eqb-true}
use Rattle.std.proofs.lemmas.Bool.{and_from, le-leb}
use Rattle.ceu_base.specs.declared.kinds.Fault.TheVariants.{SpawnCount}
use Rattle.ceu_base.specs.declared.kinds.Mark.TheVariants as mark
use Rattle.ceu_tree.specs.declared.kernel.Kernel.{Kernel}
use Rattle.ceu_tree.specs.declared.kernel.KCode.{KCode}
use Rattle.ceu_tree.specs.declared.kernel.KNode.{KNode}
use Rattle.ceu_tree.specs.declared.kernel.KBlock.{KBlock, out-KBlock}
use Rattle.ceu_tree.specs.Residual.{Body, Program, Spawned as InstanceBody, Act, Begin, Finish, AtEnd, Seat, Residual, Over, Run, WaitEvent, Instances, no_instance, instance}
use Rattle.ceu_tree.specs.Focus.{Frame, OfBlock, OfInstance, OfOpen, OfLoop, OfCall, OfPar, Focus, Here, In, plug, graft, leaf, body_in, body_of}
use Rattle.ceu_tree.specs.World.{World, Cell, NotSet, Names, Held, marked, set_alias, set_parameters, dead}
use Rattle.ceu_tree.specs.Abort.{aborted}
use Rattle.ceu_tree.specs.Wake.{by_event}
use Rattle.ceu_tree.specs.Leaf as does
use Rattle.ceu_tree.specs.Leaf.{Does, acted, code_at}
use Rattle.ceu_tree.specs.Around.{Outcome, Goes, Rests, Raises, Fails, Past, Registers, AtBlockEnd, AtLoopHead, Ends, Leaves, Moved, moved, up, taken, answered}
use Rattle.ceu_tree.specs.Step.{event_code, free_place, with_instance, seated_if, seat_frame, seated, spawned_at, spawned, unseated, unseat_frame, unseat, killed_in, kill_frame, killed, does_in, stepped}
use Rattle.ceu_tree.specs.Proper.{IsAlias, Scope, is_proper}
use Rattle.laws_meaning_basics.specs.Shape.{Part, code_scope, AllFit, none_lives, one_lives, FrameFits, around_statement, around_end, around_instance, around_part, around_turn, around_call, around_branch, Around, nothing_around, one_around, TurnFits}
use Rattle.laws_meaning_basics.proofs.Static.{code_static}
use Rattle.laws_meaning_basics.proofs.UpFits.{Sound}
use Rattle.laws_meaning_basics.proofs.StepFits.{around_sound, unseated_around}
use Rattle.laws_meaning_instances.proofs.Living.{quiet_then}
use Rattle.laws_meaning_instances.proofs.Leaf.{set_alias_quiet, set_parameters_quiet}
use Rattle.laws_meaning_instances.proofs.Spawns.{frame_without, frame_has, none_has, one_has}
use Rattle.laws_meaning_instances.proofs.Steps.{SpawnFine}
use Rattle.laws_meaning_slots.proofs.Slots.{decls_room, code_room, room, all_room, frame_room, focus_room, Calm, plug_room, graft_room, woken_room}
use Rattle.laws_meaning_slots.proofs.Values.{held, lie_more, lie_put, lie_forget_body}
use Rattle.laws_meaning_slots.proofs.Covers.{slot_is, Outer, Covers, own_more, program_seen, outer_inside, code_own, frame_covers, around_covers}
use Rattle.laws_meaning_slots.proofs.Writes.{parameters_are}
use Rattle.laws_meaning_slots.proofs.Aborts.{lie_rest, LieIn, aborted_lie}
use Rattle.laws_meaning_slots.proofs.Up.{left}
use Rattle.laws_meaning_slots.proofs.Through.{up_lie}
use Rattle.laws_meaning_slots.proofs.Leaf.{parameters_lie, alias_counts, Spawning, fresh, acted_lie}

-- ---- a new instance

frame_seated : (seat : Seat) (r : Residual) (fr : Frame) → frame_without seat.pool fr → seat_frame seat r fr ≡ fr
frame_seated seat r (OfBlock b fin all rest) h = ap (λ o. OfBlock b fin (seated_if o seat r all) rest) h
frame_seated seat r (OfInstance b fin front other back q rest) h = refl
frame_seated seat r (OfOpen s) h = refl
frame_seated seat r (OfLoop s c) h = refl
frame_seated seat r (OfCall s) h = refl
frame_seated seat r (OfPar s front back) h = refl

none_seated : (seat : Seat) (r : Residual) (f : Focus Act) → none_has seat.pool f → seated seat r f ≡ f
unfolding none_has
none_seated seat r (Here a) h = refl
none_seated seat r (In fr f) h = ap (λ x. In x (seated seat r f)) (frame_seated seat r fr h.0) ∙ ap (In fr) (none_seated seat r f h.1)

body_same : (seat : Seat) (r : Residual) (fr : Frame) (body : Body) → body_in (seat_frame seat r fr) body ≡ body_in fr body
body_same seat r (OfBlock b fin all rest) body = refl
body_same seat r (OfInstance b fin front other back q rest) body = refl
body_same seat r (OfOpen s) body = refl
body_same seat r (OfLoop s c) body = refl
body_same seat r (OfCall s) body = refl
body_same seat r (OfPar s front back) body = refl

pub body_unseated : (k : ℕ) (fr : Frame) (body : Body) → body_in (unseat_frame k fr) body ≡ body_in fr body
body_unseated k (OfBlock b fin all rest) body = refl
body_unseated k (OfInstance b fin front other back q rest) body = refl
body_unseated k (OfOpen s) body = refl
body_unseated k (OfLoop s c) body = refl
body_unseated k (OfCall s) body = refl
body_unseated k (OfPar s front back) body = refl

module _ (codes : List KCode) (g : ℕ) (h : Held) (seat : Seat) (r : Residual) where
  abbrev pub seat_room : ℕ
  seat_room = code_room codes g h (InstanceBody seat.number) (code_at seat.code codes) + room codes g h r (InstanceBody seat.number)

  with_room : (all : Instances) → all_room codes g h (with_instance seat r all) ≡ all_room codes g h all + seat_room
  unfolding room
  with_room no_instance = omega arith
  with_room (instance other q more) = go (nat_lt seat.pool other.pool) (with_room more)
    where
      go : (b : Bool) → all_room codes g h (with_instance seat r more) ≡ all_room codes g h more + seat_room
          → all_room codes g h (if b then instance seat r (instance other q more) else instance other q (with_instance seat r more)) ≡ code_room codes g h (InstanceBody other.number) (code_at other.code codes) + (room codes g h q (InstanceBody other.number) + all_room codes g h more) + seat_room
      go true e = omega arith
      go false e = omega (arith, e)

  frame_new : (fr : Frame) (body : Body) → frame_has seat.pool seat.code fr
      → frame_room codes g h (seat_frame seat r fr) body ≡ frame_room codes g h fr body + seat_room
  frame_new (OfBlock b fin all rest) body e = let a = ap (λ o. all_room codes g h (seated_if o seat r all)) e.sized in let z = with_room all in omega (arith, a, z)
  frame_new fr body e = elim e [ ]

  pub one_room : (f : Focus Act) (body : Body) → one_has seat.pool seat.code f
      → focus_room codes g h (seated seat r f) body ≡ focus_room codes g h f body + seat_room
  unfolding one_has focus_room
  one_room (Here a) body e = elim e [ ]
  one_room (In fr f) body (inl e) =
      let a = frame_new fr body e.0 in let b = ap (λ x. focus_room codes g h x (body_in (seat_frame seat r fr) body)) (none_seated seat r f e.1) in let d = ap (focus_room codes g h f) (body_same seat r fr body) in omega (arith, a, b, d)
  one_room (In fr f) body (inr e) =
      let a = ap (λ x. frame_room codes g h x body) (frame_seated seat r fr e.0) in let b = one_room f (body_in fr body) e.1 in let d = ap (focus_room codes g h (seated seat r f)) (body_same seat r fr body) in omega (arith, a, b, d)

by_event_calm : (codes : List KCode) (g : ℕ) (h : Held) (level event : ℕ) (v : ℤ) → Calm codes g h (by_event level event v)
unfolding room
by_event_calm codes g h level event v (WaitEvent e s) body = go (e == event)
  where
    go : (b : Bool) → room codes g h (if b then Run level (Finish s v) else WaitEvent e s) body ≡ 0
    go true = refl
    go false = refl
by_event_calm codes g h level event v r body = refl

module _ (K : Kernel) (proper : is_proper K ≡ true) (g : ℕ) where
  -- ---- a kill

  killed_in_lie : {t : ℕ} {sc : Scope} {all : Instances} (k : ℕ) (c : Held → ℕ) (w : World) → AllFit K t sc all → Outer K g c
      → LieIn (λ h. all_room K.codes g h all + c h) w → LieIn (λ h. all_room K.codes g h (unseated k all) + c h) (killed_in k all w)
  unfolding room
  killed_in_lie k c w none_lives u x = x
  killed_in_lie k c w (one_lives {seat = seat} {r = r} {more = more} i p e fit rest) u x =
      go (seat.number == k) refl
      (killed_in_lie k (λ h. own h + c h) w rest (own_more K g c (λ h. own h + c h) (program_seen K g) Program (λ h n. omega (arith, n)) u)
      (lie_more (λ h. code h + (room K.codes g h r body + all_room K.codes g h more) + c h) (λ h. all_room K.codes g h more + (own h + c h)) (λ h n. omega (arith, n)) w.values x))
    where
      body : Body
      body = InstanceBody seat.number

      code : Held → ℕ
      code h = code_room K.codes g h body (code_at seat.code K.codes)

      own : Held → ℕ
      own h = code h + room K.codes g h r body

      here : LieIn (λ h. all_room K.codes g h more + c h) (dead seat.number (aborted r body w))
      here =
          let d : Held → ℕ = λ h. all_room K.codes g h more + c h in
          lie_forget_body K.codes g body (code_at seat.code K.codes) d (aborted r body w)
          (aborted_lie K proper g fit (code_static K seat.code i proper e) body (λ h. code h + d h) w
          (own_more K g code (λ h. code h + d h) (code_scope K seat.code i).seen body (λ h n. omega (arith, n)) (code_own K g seat.code i body e), inl (own_more K g c (λ h. code h + d h) (program_seen K g) Program (λ h n. omega (arith, n)) u))
          (lie_more (λ h. code h + (room K.codes g h r body + all_room K.codes g h more) + c h) (λ h. room K.codes g h r body + (code h + d h)) (λ h n. omega (arith, n)) w.values x))

      go : (b : Bool) → (seat.number == k) ≡ b → LieIn (λ h. all_room K.codes g h (unseated k more) + (own h + c h)) (killed_in k more w)
          → LieIn (λ h. all_room K.codes g h (if b then more else instance seat r (unseated k more)) + c h) (if b then dead k (aborted r (InstanceBody k) w) else killed_in k more w)
      go true q beyond = subst (λ j. LieIn (λ h. all_room K.codes g h more + c h) (dead j (aborted r (InstanceBody j) w))) (eqb-true seat.number k q) here
      go false q beyond =
          lie_more (λ h. all_room K.codes g h (unseated k more) + (own h + c h)) (λ h. code h + (room K.codes g h r body + all_room K.codes g h (unseated k more)) + c h) (λ h n. omega (arith, n)) (killed_in k more w).values beyond

  block_kills : {t : ℕ} {sc : Scope} (b : KBlock) (fin : List KNode) (all : Instances) (rest : List KNode) (k : ℕ) (m c : Held → ℕ) (body : Body) (w : World)
      → AllFit K t sc all → Outer K g (λ h. decls_room K.codes g h body (out-KBlock b).decls + c h)
      → LieIn (λ h. frame_room K.codes g h (OfBlock b fin all rest) body + m h + c h) w → LieIn (λ h. frame_room K.codes g h (OfBlock b fin (unseated k all) rest) body + m h + c h) (killed_in k all w)
  block_kills b fin all rest k m c body w fit u x =
      let d : Held → ℕ = λ h. decls_room K.codes g h body (out-KBlock b).decls + c h in
      let v : Held → ℕ = λ h. m h + d h in
      lie_more (λ h. all_room K.codes g h (unseated k all) + v h) (λ h. frame_room K.codes g h (OfBlock b fin (unseated k all) rest) body + m h + c h) (λ h n. omega (arith, n)) (killed_in k all w).values
      (killed_in_lie k v w fit (own_more K g d v (program_seen K g) Program (λ h n. omega (arith, n)) u)
      (lie_more (λ h. frame_room K.codes g h (OfBlock b fin all rest) body + m h + c h) (λ h. all_room K.codes g h all + v h) (λ h n. omega (arith, n)) w.values x))

  kill_frame_lie : {t : ℕ} {fr : Frame} {d e : Part} (k : ℕ) (m c : Held → ℕ) (body : Body) (w : World) → FrameFits K t fr d e → Covers K g c d body
      → LieIn (λ h. frame_room K.codes g h fr body + m h + c h) w
      → LieIn (λ h. frame_room K.codes g h (unseat_frame k fr) body + m h + c h) (kill_frame k fr w)
  kill_frame_lie {fr = OfBlock b fin all rest} k m c body w (around_statement done e f fit) o x = block_kills b fin all rest k m c body w fit (outer_inside K g b body c o.1) x
  kill_frame_lie {fr = OfBlock b fin all rest} k m c body w (around_end f fit) o x = block_kills b fin all rest k m c body w fit (outer_inside K g b body c o.1) x
  kill_frame_lie k m c body w (around_instance done i e f r y z p q) o x = x
  kill_frame_lie k m c body w (around_part b e) o x = x
  kill_frame_lie k m c body w (around_turn i b e q) o x = x
  kill_frame_lie k m c body w (around_call i es f t a e q) o x = x
  kill_frame_lie k m c body w (around_branch i slot bs b cs e y z) o x = x

  unseated_frame : {t : ℕ} {fr : Frame} {d e : Part} (k : ℕ) → FrameFits K t fr d e → FrameFits K t (unseat_frame k fr) d e
  unseated_frame {t = t} {fr = fr} {d = d} {e = e} k a = out (unseated_around K proper t k {f = In fr (Here AtEnd)} (one_around a nothing_around))
    where
      out : Around K t Act (In (unseat_frame k fr) (Here AtEnd)) d e → FrameFits K t (unseat_frame k fr) d e
      out (one_around b nothing_around) = b

  killed_lie : {t : ℕ} {f : Focus Act} {d e : Part} (k : ℕ) (c : Held → ℕ) (body : Body) (w : World) → Around K t Act f d e → Covers K g c d body
      → LieIn (λ h. focus_room K.codes g h f body + c h) w → LieIn (λ h. focus_room K.codes g h (unseat k f) body + c h) (killed k f w)
  unfolding focus_room
  killed_lie k c body w nothing_around o x = x
  killed_lie {f = In fr f} k c body w (one_around {e = e} a more) o x =
      let i : Held → ℕ = λ h. frame_room K.codes g h (unseat_frame k fr) body + c h in
      let same = body_unseated k fr body in
      let o1 = subst (Covers K g i e) same (frame_covers K g (unseated_frame k a) c body o) in
      let w1 = kill_frame k fr w in
      let x1 = kill_frame_lie k (λ h. focus_room K.codes g h f (body_in fr body)) c body w a o x in
      let x2 = killed_lie k i (body_in fr body) w1 more o1 (lie_more (λ h. frame_room K.codes g h (unseat_frame k fr) body + focus_room K.codes g h f (body_in fr body) + c h) (λ h. focus_room K.codes g h f (body_in fr body) + i h) (λ h n. omega (arith, n)) w1.values x1) in
      lie_more (λ h. focus_room K.codes g h (unseat k f) (body_in fr body) + i h) (λ h. frame_room K.codes g h (unseat_frame k fr) body + focus_room K.codes g h (unseat k f) (body_in (unseat_frame k fr) body) + c h)
      (λ h n. (let z = ap (focus_room K.codes g h (unseat k f)) same in omega (arith, n, z))) (killed k f w1).values x2

  -- ---- of a whole focus no exit is left

  abbrev pub left_whole : Held → Body → Outcome → ℕ
  left_whole h root (Goes x) = focus_room K.codes g h x root
  left_whole h root (Rests r) = room K.codes g h r root
  left_whole h root (Raises r) = room K.codes g h r root
  left_whole h root (Fails e r) = 1
  left_whole h root _ = 0

  whole_left : (h : Held) (root : Body) (f : Focus Act) (x : Outcome) → left_whole h root (taken f x) ≡ left K proper g h root f x
  unfolding room
  whole_left h root f (Goes x) = refl
  whole_left h root f (Rests r) = refl
  whole_left h root f (Raises r) = refl
  whole_left h root f (Fails e r) = refl
  whole_left h root f (Ends v) = refl
  whole_left h root f (Leaves node x) = let a = plug_room K.codes g h f Over root in omega (arith, a)
  whole_left h root f Past = refl
  whole_left h root f (Registers s) = refl
  whole_left h root f AtBlockEnd = refl
  whole_left h root f AtLoopHead = refl

  abbrev pub Result : (Held → ℕ) → Body → Moved → Type 0
  Result c root m = LieIn (λ h. left_whole h root m.outcome + c h) m.world

  answered_lie : {t : ℕ} {f : Focus Act} {d e : Part} → Around K t Act f d e → Sound K proper d → (x : Outcome) (root : Body) (c : Held → ℕ) (w : World)
      → Covers K g c d root → ((h : Held) (b : Body) (a : Act) → left K proper g h b (Here a) x ≡ 0)
      → LieIn (λ h. focus_room K.codes g h f root + c h) w → Result c root (answered root f x w)
  answered_lie {f = f} a h x root c w o z l =
      let m = up root f x w in
      lie_more (λ k. left K proper g k root f m.outcome + c k) (λ k. left_whole k root (taken f m.outcome) + c k) (λ k n. (let e = whole_left k root f m.outcome in omega (arith, e, n))) m.world.values (up_lie K proper g a h x root c w o z l)

  abbrev pub Low : Moved → Type 0
  Low m = m.world.given ≤ g

  -- ---- a spawn

  alias_lies : (m c : Held → ℕ) (body : Body) (alias : Option ℕ) (cell : Cell) (w : World) → ((h : Held) → 1 ≤ c h → 1 ≤ m h) → alias_counts K g c body alias
      → ((k : ℕ) (ps : List ℕ) → slot_is K g (IsAlias k ps) cell ≡ true) → LieIn m w → LieIn m (set_alias body alias cell w)
  alias_lies m c body None cell w f a e x = x
  alias_lies m c body (Some slot) cell w f a e x = lie_put m body slot cell w.values (f (held body slot cell) (a cell e)) x

  spawned_at_lie : (n : ℕ) (root body : Body) (f : Focus Act) (s : KNode) (i : KCode) (code pool place : ℕ) (alias : Option ℕ) (vs : List ℤ) (c : Held → ℕ) (w : World)
      → one_has pool code f → code_at code K.codes ≡ Some i
      → alias_counts K g (λ h. focus_room K.codes g h f root + c h) body alias → Low (spawned_at n body f s i code pool place alias vs w) → LieIn (λ h. focus_room K.codes g h f root + c h) w
      → Result c root (spawned_at n body f s i code pool place alias vs w)
  unfolding room
  spawned_at_lie n root body f s i code pool place alias vs c w one there counts low x = go (w.given == 4294967295) low
    where
      number : ℕ
      number = w.given + 1

      v : World
      v = record w { given = number; living = number ∷ w.living }

      v1 : World
      v1 = set_alias body alias (Names number) v

      u : World
      u = set_parameters (InstanceBody number) i.params vs v1

      seat : Seat
      seat = record { pool = pool; place = place; code = code; number = number }

      run : Residual
      run = Run (n + 1) (Begin i.body)

      given : u.given ≡ number
      given = (quiet_then v v1 u (set_alias_quiet body alias (Names number) v) (set_parameters_quiet (InstanceBody number) i.params vs v1)).given

      before : Held → ℕ
      before h = focus_room K.codes g h f root + c h

      all : Held → ℕ
      all h = room K.codes g h (plug (seated seat run f) (Run n (Finish s (pos 0)))) root + c h

      size : (h : Held) → all h ≡ before h + code_room K.codes g h (InstanceBody number) (code_at code K.codes)
      size h = let a = plug_room K.codes g h (seated seat run f) (Run n (Finish s (pos 0))) root in let b = one_room K.codes g h seat run f root one in omega (arith, a, b)

      more : (h : Held) → 1 ≤ before h → 1 ≤ all h
      more h l = let a = size h in omega (arith, a, l)

      new : (h : Held) → decls_room K.codes g h (InstanceBody number) i.params ≤ all h
      new h = let a = size h in let b = ap (code_room K.codes g h (InstanceBody number)) there in omega (arith, a, b)

      go : (b : Bool)
          → Low (if b then moved (Fails (SpawnCount, s.pos) (plug f Over)) w else moved (Raises (plug (seated seat run f) (Run n (Finish s (pos 0))))) (marked (mark.Push (n + 1)) (marked (mark.Spawned number) u)))
          → Result c root (if b then moved (Fails (SpawnCount, s.pos) (plug f Over)) w else moved (Raises (plug (seated seat run f) (Run n (Finish s (pos 0))))) (marked (mark.Push (n + 1)) (marked (mark.Spawned number) u)))
      go true l = lie_more before (λ h. 1 + c h) (λ h n. omega arith) w.values x
      go false l =
          parameters_lie K g (InstanceBody number) i.params vs all v1 (parameters_are K code i proper there) new
          (alias_lies all before body alias (Names number) v more counts (λ k ps. and_from _ _ (le-leb 1 number (omega arith)) (le-leb number g (omega (arith, l, given)))) (lie_more before all more w.values x))

  spawned_lie : {t : ℕ} {d e : Part} (n : ℕ) (root body : Body) (f : Focus Act) (s : KNode) (i : KCode) (code pool : ℕ) (alias : Option ℕ) (vs : List ℤ) (c : Held → ℕ) (w : World)
      → Around K t Act f d e → Sound K proper d → Covers K g c d root
      → one_has pool code f → code_at code K.codes ≡ Some i → alias_counts K g (λ h. focus_room K.codes g h f root + c h) body alias → Low (spawned n root body f s i code pool alias vs w) → LieIn (λ h. focus_room K.codes g h f root + c h) w
      → Result c root (spawned n root body f s i code pool alias vs w)
  spawned_lie n root body f s i code pool alias vs c w a h o one there counts low x = go (free_place pool f) low
    where
      go : (o : Option ℕ) → Low (elim o [
        | None ↦ answered root f Past (marked mark.Full (set_alias body alias NotSet w))
        | Some place ↦ spawned_at n body f s i code pool place alias vs w
      ]) → Result c root (elim o [
        | None ↦ answered root f Past (marked mark.Full (set_alias body alias NotSet w))
        | Some place ↦ spawned_at n body f s i code pool place alias vs w
      ])
      go None l = answered_lie a h Past root c (marked mark.Full (set_alias body alias NotSet w)) o (λ k b z. refl) (alias_lies (λ k. focus_room K.codes g k f root + c k) (λ k. focus_room K.codes g k f root + c k) body alias NotSet w (λ k m. m) counts (λ k ps. refl) x)
      go (Some place) l = spawned_at_lie n root body f s i code pool place alias vs c w one there counts l x

  does_lie : {t : ℕ} {d e : Part} (n : ℕ) (root : Body) (f : Focus Act) (x : Does) (c : Held → ℕ) (w : World) → Around K t Act f d e → Sound K proper d
      → Covers K g c d root → SpawnFine f x
      → Spawning K g (λ h. focus_room K.codes g h f root + c h) (body_of f root) x → Low (does_in K n root (body_of f root) f x w)
      → LieIn (λ h. fresh K g h (body_of f root) x + (focus_room K.codes g h f root + c h)) w → Result c root (does_in K n root (body_of f root) f x w)
  unfolding room focus_room
  does_lie n root f (does.Opens y) c w a h o k p low x =
      lie_more (λ j. focus_room K.codes g j y (body_of f root) + (focus_room K.codes g j f root + c j)) (λ j. left_whole j root (Goes (graft f y)) + c j) (λ j m. (let z = graft_room K.codes g j f y root in omega (arith, z, m))) w.values x
  does_lie n root f (does.Waits r) c w a h o k p low x =
      lie_more (λ j. room K.codes g j r (body_of f root) + (focus_room K.codes g j f root + c j)) (λ j. room K.codes g j (plug f r) root + c j) (λ j m. (let z = plug_room K.codes g j f r root in omega (arith, z, m))) w.values x
  does_lie n root f does.Passes c w a h o k p low x = answered_lie a h Past root c w o (λ j b z. refl) (lie_rest (λ j. focus_room K.codes g j f root + c j) w x)
  does_lie n root f (does.Leaves node y) c w a h o k p low x = answered_lie a h (Leaves node y) root c w o (λ j b z. refl) (lie_rest (λ j. focus_room K.codes g j f root + c j) w x)
  does_lie n root f (does.Registers s) c w a h o k p low x = answered_lie a h (Registers s) root c w o (λ j b z. refl) (lie_rest (λ j. focus_room K.codes g j f root + c j) w x)
  does_lie n root f does.Ends c w a h o k p low x = answered_lie a h AtBlockEnd root c w o (λ j b z. refl) (lie_rest (λ j. focus_room K.codes g j f root + c j) w x)
  does_lie n root f does.Heads c w a h o k p low x = answered_lie a h AtLoopHead root c w o (λ j b z. refl) (lie_rest (λ j. focus_room K.codes g j f root + c j) w x)
  does_lie n root f (does.Emits s event v) c w a h o k p low x =
      lie_more (λ j. 0 + (focus_room K.codes g j f root + c j)) (λ j. left_whole j root (does_in K n root (body_of f root) f (does.Emits s event v) w).outcome + c j)
      (λ j m. (let z = woken_room K.codes g j (by_event (n + 1) event v) (by_event_calm K.codes g j (n + 1) event v) (event_code event K.events) f (Run n (Finish s (pos 0))) root in omega (arith, z, m))) w.values x
  does_lie n root f (does.Spawns s i code pool alias vs) c w a h o k p low x = spawned_lie n root (body_of f root) f s i code pool alias vs c w a h o k p.1 p.0 low (lie_rest (λ j. focus_room K.codes g j f root + c j) w x)
  does_lie n root f (does.Kills j) c w a h o k p low x = answered_lie (unseated_around K proper _ j a) h Past root c (killed j f w) o (λ i b z. refl) (killed_lie j c root w a o (lie_rest (λ i. focus_room K.codes g i f root + c i) w x))
  does_lie n root f (does.Fails e) c w a h o k p low x = lie_more (λ j. 0 + (focus_room K.codes g j f root + c j)) (λ j. 1 + c j) (λ j m. omega arith) w.values x

  pub stepped_lie : {t : ℕ} {d : Part} (n : ℕ) (root : Body) (f : Focus Act) (c : Held → ℕ) (w : World) → TurnFits K t d f → Sound K proper d → Covers K g c d root
      → SpawnFine f (acted K n (body_of f root) (leaf f) w).does
      → Low (stepped K n root f w) → LieIn (λ h. focus_room K.codes g h f root + c h) w → Result c root (stepped K n root f w)
  unfolding stepped
  stepped_lie n root f c w z h o k low x =
      let q = acted K n (body_of f root) (leaf f) w in
      let a = acted_lie K proper g (body_of f root) (λ j. focus_room K.codes g j f root + c j) w x n z.part (leaf f) (around_sound K proper z.around h) z.acts (around_covers K g z.around c root o) in
      does_lie n root f q.does c q.world z.around h o k a.spawns low a.lie
