-- What the parts around a leaf do with what it comes to keeps the counters.
use Rattle.std.proofs.Common.{◌≡◌, refl, sym, ap, ◌∙◌, subst, ◌≤◌, ◌<◌, ℕ, suc, ◌+◌, ℤ, pos, ◌+ℤ◌, int_lt, int_le, Bool, true, false, if◌then◌else◌, ◌==◌, ◌&&◌, ◌⊎◌, inl, inr, List, ◌∷◌, Option, Some, arith, eqb-true, eq-eqb}
use Rattle.std.proofs.lemmas.Bool.{and_parts, and_from, eqb-false, cases_lt, false≢true}
use Rattle.std.proofs.lemmas.Int.{ints}
use Rattle.ceu_base.specs.declared.kinds.Fault.TheVariants.{LoopLimit}
use Rattle.ceu_base.specs.declared.kinds.Mark.TheVariants as mark
use Rattle.ceu_tree.specs.declared.kernel.Kernel.{Kernel}
use Rattle.ceu_tree.specs.declared.kernel.KLoop.{KLoop}
use Rattle.ceu_tree.specs.declared.kernel.KLoop.TheVariants as turns
use Rattle.ceu_tree.specs.declared.kernel.ParKind.{ParKind}
use Rattle.ceu_tree.specs.declared.kernel.ParKind.TheVariants as par
use Rattle.ceu_tree.specs.declared.kernel.KNode.{KNode}
use Rattle.ceu_tree.specs.declared.kernel.KBlock.{KBlock, out-KBlock}
use Rattle.ceu_tree.specs.declared.kernel.KStmt.{out-KStmt}
use Rattle.ceu_tree.specs.declared.kernel.KStmt.TheOpen.{KStmt-F}
use Rattle.ceu_tree.specs.Residual.{Body, Awaited, Spawned, same_body, Act, Begin, Again, Counter, Free, Turns, Upward, Residual, Over, Block, Loop, Par, Branches, branch, Instances}
use Rattle.ceu_tree.specs.Focus.{Frame, OfBlock, OfInstance, OfOpen, OfLoop, OfCall, OfPar, Focus, Here, In, join, join_instances, fill, plug, leaf, body_in, body_of}
use Rattle.ceu_tree.specs.World.{World, Cell, Holds, marked, set, assign_if, dead}
use Rattle.ceu_tree.specs.Abort.{aborted, closed, forget_loop, returned}
use Rattle.ceu_tree.specs.Leaf.{Layer, Exit, Escape, Break, Continue, target, next_of, rest_of}
use Rattle.ceu_tree.specs.Around.{Outcome, Goes, Rests, Raises, Fails, Past, Registers, AtBlockEnd, AtLoopHead, Ends, Leaves, Moved, moved, value_with, body_left, open_left, again, begins_turn, turn_of, next_turn, loop_exit, loop_left, all_over, kind_of, rejoined, through, up, taken, answered}
use Rattle.ceu_tree.specs.Proper.{is_proper}
use Rattle.laws_meaning_basics.specs.Shape.{Part, ABlock, FrameFits, around_statement, around_end, around_instance, around_part, around_turn, around_call, around_branch, Around, nothing_around, one_around, Comes}
use Rattle.laws_meaning_basics.proofs.UpFits.{Sound, frame_sound, up_fits}
use Rattle.laws_meaning_basics.proofs.StepFits.{Closed}
use Rattle.laws_meaning_values.proofs.Stores.{same_is}
use Rattle.laws_meaning_values.proofs.UpValues.{is_head_outcome}
use Rattle.laws_meaning_counters.specs.Counters.{loop_stands, loops_stand, all_loops_stand, each_loops_stand, frame_loops_stand, is_first, at_loop, focus_loops_stand}
use Rattle.laws_meaning_counters.proofs.Cells.{cell_in, is_own, set_apart, set_own, assign_if_apart, forget_body_apart, forget_loop_apart}
use Rattle.laws_meaning_counters.proofs.Grips.{point, own, grip, grip_all, frame_grip, focus_grip, body_point, settled, all_settled, frame_settled}
use Rattle.laws_meaning_counters.proofs.CountersTrees.{loop_later, frame_later, joined, joined_all, filled}
use Rattle.laws_meaning_counters.proofs.Marks.{kernel_marks}
use Rattle.laws_meaning_counters.proofs.Clear.{Clear, target_clear, block_finalizers, frame_clear}
use Rattle.laws_meaning_counters.proofs.Aborts.{not_own, not_body, closed_kept, end_finalizers, frame_kept, focus_kept}

module _ (K : Kernel) (proper : is_proper K ≡ true) (b : Body) (x : ℕ) (clean : kernel_marks true x K ≡ 0) (n : ℕ) where
  abbrev pub OutcomeStands : Option Cell → Body → Outcome → Type 0
  OutcomeStands cell here (Goes g) = focus_loops_stand b x cell is_first here g
  OutcomeStands cell here (Rests r) = loops_stand b x cell here r
  OutcomeStands cell here (Raises r) = loops_stand b x cell here r
  OutcomeStands cell here y = Unit {0}

  -- a step of a part that had so much hold of the slot
  pub record Moves (here : Body) (k : ℕ) (w : World) (m : Moved) : Type 0 where
    pub stands : OutcomeStands (cell_in b x m.world) here m.outcome
    pub kept : k ≡ 0 → cell_in b x m.world ≡ cell_in b x w

  nothing : (here : Body) (k : ℕ) (w : World) (y : Outcome) (u : World) → OutcomeStands (cell_in b x u) here y → (k ≡ 0 → cell_in b x u ≡ cell_in b x w) → Moves here k w (moved y u)
  nothing here k w y u h e = record { stands = h; kept = e }

  -- where something else has hold of the slot, what a part does leaves the slot as it was
  carry : (here : Body) (fr : Frame) (o k : ℕ) (t : Bool) (old new : Option Cell) → point b x here ≤ o → o + frame_grip b x here fr + k ≤ 3 → (k ≡ 0 → new ≡ old) → frame_loops_stand b x old t here fr → frame_loops_stand b x new t here fr
  carry here fr o k t old new p l e h = go (cases_lt 2 (o + frame_grip b x here fr))
    where
      go : (2 < o + frame_grip b x here fr) ⊎ (o + frame_grip b x here fr ≤ 2) → frame_loops_stand b x new t here fr
      go (inl q) = subst (λ c. frame_loops_stand b x c t here fr) (sym (e (omega (arith, l, q)))) h
      go (inr q) = frame_settled b x new t here fr (omega (arith, p, q))

  strict : (here : Body) (fr : Frame) (f : Focus Act) (y : Outcome) (cell : Option Cell) → is_head_outcome y ≡ false → (at_loop is_first f ≡ true → is_head_outcome y ≡ true) → frame_loops_stand b x cell (at_loop is_first f) here fr → frame_loops_stand b x cell false here fr
  strict here fr f y cell e k h = go (at_loop is_first f) refl h
    where
      go : (t : Bool) → at_loop is_first f ≡ t → frame_loops_stand b x cell t here fr → frame_loops_stand b x cell false here fr
      go false q s = s
      go true q s = absurd (false≢true (sym e ∙ k q))

  -- ---- loops

  heads : (cell : Option Cell) (t : Bool) (here : Body) (layer : Layer) (c : Counter) → loop_stands b x cell t here layer c → loop_stands b x cell true here layer c
  heads cell true here layer c h = h
  heads cell false here layer c h = loop_later b x cell true here layer c h

  turn_on : (here : Body) (k : ℕ) (s : KNode) (l : KLoop) (c : KBlock) (j : Counter) (w u : World) → out-KStmt s.stmt ≡ KStmt-F.Loop l c → loop_stands b x (cell_in b x u) false here (KStmt-F.Loop l c) j → (k ≡ 0 → cell_in b x u ≡ cell_in b x w)
      → Moves here k w (begins_turn s j c u)
  unfolding focus_loops_stand
  turn_on here k s l c j w u e h q = nothing here k w (Goes (In (OfLoop s j) (Here (Begin c)))) u (subst (λ y. loop_stands b x (cell_in b x u) false here y j) (sym e) h, tt) q

  not_above : (v last : ℤ) → int_lt last v ≡ false → int_le v last ≡ true
  not_above v last h = go (int_le v last) refl
    where
      go : (t : Bool) → int_le v last ≡ t → int_le v last ≡ true
      go true e = e
      go false e = absurd (omega (arith, ints, e, h))

  turn_moves : (here : Body) (k : ℕ) (s : KNode) (l : KLoop) (c : KBlock) (j : Counter) (w : World) → out-KStmt s.stmt ≡ KStmt-F.Loop l c → (k ≡ 0 → is_own b x here (KStmt-F.Loop l c) ≡ false) → loop_stands b x (cell_in b x w) true here (KStmt-F.Loop l c) j
      → Moves here k w (turn_of s l c j here w)
  turn_moves here k s (turns.Times slot limit) c (Turns m) w e z h = go (m == limit) refl
    where
      go : (t : Bool) → (m == limit) ≡ t → Moves here k w (if t then moved (Fails (LoopLimit, s.pos) (Loop s (Turns m) Over)) w else begins_turn s (Turns (m + 1)) c w)
      go true q = nothing here k w (Fails (LoopLimit, s.pos) (Loop s (Turns m) Over)) w tt (λ u. refl)
      go false q = turn_on here k s (turns.Times slot limit) c (Turns (m + 1)) w w e (λ u. (omega arith, (let a = h u in let d = eqb-false m limit q in omega (arith, a, d)))) (λ u. refl)
  turn_moves here k s (turns.Range i next end open_a y1 y2 open_b) c (Upward v last) w e z h = go (int_lt last v) refl
    where
      l : KLoop
      l = turns.Range i next end open_a y1 y2 open_b

      u : World
      u = set here i (Holds v) w

      own_cell : (same_body here b && (i == x)) ≡ true → cell_in b x u ≡ Some (Holds v)
      own_cell q =
          let a = and_parts (same_body here b) (i == x) q in
          subst (λ d. cell_in d x (set here i (Holds v) w) ≡ Some (Holds v)) (same here a.0) (subst (λ d. cell_in here d (set here i (Holds v) w) ≡ Some (Holds v)) (eqb-true i x a.1) (set_own here i (Holds v) w))
        where
          same : (d : Body) → same_body d b ≡ true → d ≡ b
          same d a = same_is d b a

      apart : is_own b x here (KStmt-F.Loop l c) ≡ false → same_body here b ≡ true → i ≡ x → ⊥
      apart q a d = false≢true (sym q ∙ and_from (same_body here b) (i == x) a (eq-eqb i x d))

      go : (t : Bool) → int_lt last v ≡ t → Moves here k w (if t then moved Past (forget_loop here s.stmt w) else begins_turn s (Upward (v +ℤ pos 1) last) c u)
      go true q = nothing here k w Past (forget_loop here s.stmt w) tt (λ a. forget_loop_apart b x here s w (ap (is_own b x here) e ∙ z a))
      go false q =
          turn_on here k s l c (Upward (v +ℤ pos 1) last) w u e
          (λ a. record { value = v; held = own_cell a; next_is = refl; not_beyond = not_above v last q; from = (h a).0; to = (h a).1 })
          (λ a. set_apart b x here i (Holds v) w (apart (z a)))
  turn_moves here k s turns.Free c j w e z h = turn_on here k s turns.Free c j w w e (λ u. absurd (never u)) (λ u. refl)
    where
      never : (same_body here b && false) ≡ true → ⊥
      never u = false≢true (and_parts (same_body here b) false u).1
  turn_moves here k s (turns.Times slot limit) c Free w e z h = turn_on here k s (turns.Times slot limit) c Free w w e (λ u. tt) (λ u. refl)
  turn_moves here k s (turns.Times slot limit) c (Upward v last) w e z h = turn_on here k s (turns.Times slot limit) c (Upward v last) w w e (λ u. tt) (λ u. refl)
  turn_moves here k s (turns.Range i next end open_a y1 y2 open_b) c Free w e z h = turn_on here k s (turns.Range i next end open_a y1 y2 open_b) c Free w w e (λ u. tt) (λ u. refl)
  turn_moves here k s (turns.Range i next end open_a y1 y2 open_b) c (Turns m) w e z h = turn_on here k s (turns.Range i next end open_a y1 y2 open_b) c (Turns m) w w e (λ u. tt) (λ u. refl)

  next_moves : (here : Body) (k : ℕ) (s : KNode) (l : KLoop) (c : KBlock) (layer : Layer) (j : Counter) (w : World) → out-KStmt s.stmt ≡ KStmt-F.Loop l c → KStmt-F.Loop l c ≡ layer → (k ≡ 0 → is_own b x here (KStmt-F.Loop l c) ≡ false)
      → loop_stands b x (cell_in b x w) true here (KStmt-F.Loop l c) j → Moves here k w (next_turn s layer j here w)
  next_moves here k s l c layer j w e q z h = subst (λ y. Moves here k w (next_turn s y j here w)) q (turn_moves here k s l c j w e z h)

  -- ---- one part

  -- of a part around the focus f, in a world w: something outside has hold of the slot as far as `o`
  record Near (here : Body) (fr : Frame) (f : Focus Act) (o : ℕ) (w : World) : Type 0 where
    room : point b x here ≤ o
    most : o + frame_grip b x here fr + focus_grip b x (body_in fr here) f ≤ 3
    inside : focus_grip b x (body_in fr here) f ≡ 0 → cell_in b x (aborted (plug f Over) (body_in fr here) w) ≡ cell_in b x w

  body_left_moves : (t : Bool) (here : Body) (k : ℕ) (c : KBlock) (fin : List KNode) (all : Instances) (f : Focus Act) (node : ℕ) (z : Exit) (w : World) → (k ≡ 0 → cell_in b x (closed c fin all here (aborted (plug f Over) here w)) ≡ cell_in b x w)
      → Moves here k w (body_left t c fin all f here node z w)
  body_left_moves true here k c fin all f node z w h = nothing here k w (Ends (value_with z)) (closed c fin all here (aborted (plug f Over) here w)) tt h
  body_left_moves false here k c fin all f node z w h = nothing here k w (Leaves node z) w tt (λ u. refl)

  open_left_moves : (t : Bool) (here : Body) (k : ℕ) (s : KNode) (f : Focus Act) (node : ℕ) (z : Exit) (w : World) → (k ≡ 0 → cell_in b x (assign_if here (target s) (value_with z) (aborted (plug f Over) here w)) ≡ cell_in b x w) → Moves here k w (open_left t s f here node z w)
  open_left_moves true here k s f node z w h = nothing here k w Past (assign_if here (target s) (value_with z) (aborted (plug f Over) here w)) tt h
  open_left_moves false here k s f node z w h = nothing here k w (Leaves node z) w tt (λ u. refl)

  again_moves : (here : Body) (k : ℕ) (s : KNode) (j : Counter) (w u : World) → loop_stands b x (cell_in b x u) false here (out-KStmt s.stmt) j → (k ≡ 0 → cell_in b x u ≡ cell_in b x w) → Moves here k w (again s j u)
  unfolding focus_loops_stand
  again_moves here k s j w u h q = nothing here k w (Goes (In (OfLoop s j) (Here Again))) u (h, tt) q

  exit_moves : (here : Body) (s : KNode) (j : Counter) (f : Focus Act) (o : ℕ) (z : Exit) (w : World) → Near here (OfLoop s j) f o w → loop_stands b x (cell_in b x w) false here (out-KStmt s.stmt) j
      → Moves here (own b x here (out-KStmt s.stmt) + focus_grip b x here f) w (loop_exit s j z here (aborted (plug f Over) here w))
  exit_moves here s j f o Continue w i h =
      again_moves here _ s j w (aborted (plug f Over) here w) (carry here (OfLoop s j) o (focus_grip b x here f) false (cell_in b x w) (cell_in b x (aborted (plug f Over) here w)) i.room i.most i.inside h) (λ u. i.inside (omega (arith, u)))
  exit_moves here s j f o Break w i h =
      nothing here _ w Past (forget_loop here s.stmt (aborted (plug f Over) here w)) tt (λ u. forget_loop_apart b x here s (aborted (plug f Over) here w) (not_own b x here (out-KStmt s.stmt) (omega (arith, u))) ∙ i.inside (omega (arith, u)))
  exit_moves here s j f o (Escape v) w i h =
      nothing here _ w Past (forget_loop here s.stmt (aborted (plug f Over) here w)) tt (λ u. forget_loop_apart b x here s (aborted (plug f Over) here w) (not_own b x here (out-KStmt s.stmt) (omega (arith, u))) ∙ i.inside (omega (arith, u)))

  loop_left_moves : (t : Bool) (here : Body) (s : KNode) (j : Counter) (f : Focus Act) (o node : ℕ) (z : Exit) (w : World) → Near here (OfLoop s j) f o w → loop_stands b x (cell_in b x w) false here (out-KStmt s.stmt) j
      → Moves here (own b x here (out-KStmt s.stmt) + focus_grip b x here f) w (loop_left t s j f here node z w)
  loop_left_moves true here s j f o node z w i h = exit_moves here s j f o z w i h
  loop_left_moves false here s j f o node z w i h = nothing here _ w (Leaves node z) w tt (λ u. refl)

  rejoined_moves : (here : Body) (k : ℕ) (kind : ParKind) (s : KNode) (bs : Branches) (w : World) → each_loops_stand b x (cell_in b x w) here bs → (k ≡ 0 → cell_in b x (aborted (Par s bs) here w) ≡ cell_in b x w) → Moves here k w (rejoined kind s bs here w)
  unfolding loops_stand
  rejoined_moves here k par.Never s bs w h q = nothing here k w (Rests (Par s bs)) w h (λ u. refl)
  rejoined_moves here k par.Or s bs w h q = nothing here k w Past (aborted (Par s bs) here w) tt q
  rejoined_moves here k par.And s bs w h q = go (all_over bs)
    where
      go : (t : Bool) → Moves here k w (if t then moved Past w else moved (Rests (Par s bs)) w)
      go true = nothing here k w Past w tt (λ u. refl)
      go false = nothing here k w (Rests (Par s bs)) w h (λ u. refl)

  instance_ends : (here : Body) (c : KBlock) (fin : List KNode) (front : Instances) (number : ℕ) (back : Instances) (r : Residual) (rest : List KNode) (o j : ℕ) (w : World) → point b x here ≤ o
      → o + (point b x (Spawned number) + (grip_all b x front + grip_all b x back) + grip b x here r) + j ≤ 3 → all_loops_stand b x (cell_in b x w) front → all_loops_stand b x (cell_in b x w) back → loops_stand b x (cell_in b x w) here r
      → Moves here (point b x (Spawned number) + (grip_all b x front + grip_all b x back) + grip b x here r + j) w (moved (Rests (Block c fin (join_instances front back) r rest)) (dead number w))
  unfolding loops_stand
  instance_ends here c fin front number back r rest o j w p l h1 h2 h3 = nothing here _ w (Rests (Block c fin (join_instances front back) r rest)) (dead number w) (go (cases_lt 2 (point b x here + (grip_all b x front + grip_all b x back + grip b x here r)))) (λ u. gone (omega (arith, u)))
    where
      gone : point b x (Spawned number) ≡ 0 → cell_in b x (dead number w) ≡ cell_in b x w
      gone u = forget_body_apart b x (Spawned number) w (not_body b x (Spawned number) u)

      go : (2 < point b x here + (grip_all b x front + grip_all b x back + grip b x here r)) ⊎ (point b x here + (grip_all b x front + grip_all b x back + grip b x here r) ≤ 2)
          → all_loops_stand b x (cell_in b x (dead number w)) (join_instances front back) × loops_stand b x (cell_in b x (dead number w)) here r
      go (inl q) =
          subst (λ a. all_loops_stand b x a (join_instances front back) × loops_stand b x a here r) (sym (gone (omega (arith, p, l, q)))) (joined_all b x (cell_in b x w) front back h1 h2, h3)
      go (inr q) =
          (joined_all b x (cell_in b x (dead number w)) front back (all_settled b x (cell_in b x (dead number w)) front (omega (arith, q))) (all_settled b x (cell_in b x (dead number w)) back (omega (arith, q))), settled b x (cell_in b x (dead number w)) here r (omega (arith, q)))

  through_moves : (here : Body) (fr : Frame) (f : Focus Act) (y : Outcome) (w : World) (d c : Part) (o : ℕ) → FrameFits K (suc n) fr d c → Sound K proper d → Clear b x K clean d → Near here fr f o w → frame_loops_stand b x (cell_in b x w) (at_loop is_first f) here fr
      → OutcomeStands (cell_in b x w) (body_in fr here) y → (at_loop is_first f ≡ true → is_head_outcome y ≡ true) → Comes K n c y → Moves here (frame_grip b x here fr + focus_grip b x (body_in fr here) f) w (through here fr f y w)
  unfolding focus_loops_stand loops_stand aborted
  through_moves here fr f (Goes g) w d c o a ok cl i s h hd k = nothing here _ w (Goes (In fr g)) w (frame_later b x (cell_in b x w) (at_loop is_first g) here fr (strict here fr f (Goes g) (cell_in b x w) refl hd s), h) (λ u. refl)
  through_moves here fr f (Rests r) w d c o a ok cl i s h hd k = nothing here _ w (Rests (fill fr r)) w (filled b x (cell_in b x w) here fr r (strict here fr f (Rests r) (cell_in b x w) refl hd s) h) (λ u. refl)
  through_moves here fr f (Raises r) w d c o a ok cl i s h hd k = nothing here _ w (Raises (fill fr r)) w (filled b x (cell_in b x w) here fr r (strict here fr f (Raises r) (cell_in b x w) refl hd s) h) (λ u. refl)
  through_moves here fr f (Fails z r) w d c o a ok cl i s h hd k = nothing here _ w (Fails z (fill fr r)) w tt (λ u. refl)
  through_moves here (OfBlock m fin all rest) f Past w d c o (around_statement done q z fit) ok cl i s h hd k = nothing here _ w (Goes (In (OfBlock m fin all (rest_of rest)) (Here (next_of rest)))) w (s, tt) (λ u. refl)
  through_moves here (OfBlock m fin all rest) f (Registers y) w d c o (around_statement done q z fit) ok cl i s h hd k =
      nothing here _ w (Goes (In (OfBlock m (y ∷ fin) all (rest_of rest)) (Here (next_of rest)))) (marked (mark.Registered y.pos) w) (s, tt) (λ u. refl)
  through_moves here (OfBlock m fin all rest) f (Leaves node y) w d c o (around_statement {turn = turn} {sc = sc} {s = s1} done q z fit) ok cl i s h hd k =
      body_left_moves (node == (out-KBlock m).node) here _ m fin all f node y w
      (λ u. closed_kept K proper b x clean m fin here (aborted (plug f Over) here w) fit (block_finalizers b x K clean turn sc m fin done (s1 ∷ rest) q z ok cl) cl.1 (omega (arith, u)) ∙ i.inside (omega (arith, u)))
  through_moves here (OfBlock m fin all rest) f AtBlockEnd w d c o (around_end {turn = turn} {sc = sc} z fit) ok cl i s h hd k =
      nothing here _ w (Ends (pos 0)) (closed m fin all here w) tt (λ u. closed_kept K proper b x clean m fin here w fit (end_finalizers K proper b x clean turn sc m fin z ok cl) cl.1 (omega (arith, u)))
  through_moves here (OfOpen q) f (Ends v) w d c o (around_part {sc = sc} m z) ok cl i s h hd k =
      nothing here _ w Past (assign_if here (target q) v w) tt (λ u. assign_if_apart b x here (target q) v w (target_clear b x K clean sc q (out-KStmt q.stmt) refl ok cl.0))
  through_moves here (OfOpen q) f (Leaves node y) w d c o (around_part {sc = sc} m z) ok cl i s h hd k =
      open_left_moves (node == q.node) here _ q f node y w
      (λ u. assign_if_apart b x here (target q) (value_with y) (aborted (plug f Over) here w) (target_clear b x K clean sc q (out-KStmt q.stmt) refl ok cl.0) ∙ i.inside (omega (arith, u)))
  through_moves here (OfLoop q j) f AtLoopHead w d c o (around_turn l m z t) ok cl i s h hd k =
      next_moves here _ q l m (out-KStmt q.stmt) j w z (sym z) (λ u. ap (is_own b x here) (sym z) ∙ not_own b x here (out-KStmt q.stmt) (omega (arith, u)))
      (heads (cell_in b x w) (at_loop is_first f) here (KStmt-F.Loop l m) j (subst (λ y. loop_stands b x (cell_in b x w) (at_loop is_first f) here y j) z s))
  through_moves here (OfLoop q j) f (Ends v) w d c o (around_turn l m z t) ok cl i s h hd k = again_moves here _ q j w w (strict here (OfLoop q j) f (Ends v) (cell_in b x w) refl hd s) (λ u. refl)
  through_moves here (OfLoop q j) f (Leaves node y) w d c o (around_turn l m z t) ok cl i s h hd k = loop_left_moves (node == q.node) here q j f o node y w i (strict here (OfLoop q j) f (Leaves node y) (cell_in b x w) refl hd s)
  through_moves here (OfCall q) f (Ends v) w d c o (around_call {sc = sc} m es g t k1 z y) ok cl i s h hd k =
      nothing here _ w Past (assign_if here (target q) v (returned here q w)) tt
      (λ u. assign_if_apart b x here (target q) v (returned here q w) (target_clear b x K clean sc q (out-KStmt q.stmt) refl ok cl.0) ∙ forget_body_apart b x (Awaited here q.node) w (not_body b x (Awaited here q.node) (omega (arith, u))))
  through_moves here (OfPar q front back) f (Ends v) w d c o (around_branch {sc = sc} kind slot bs m cs z y1 y2) ok cl i s h hd k =
      rejoined_moves here _ (kind_of (out-KStmt q.stmt)) q (join front (branch Over back)) w (joined b x (cell_in b x w) here front (branch Over back) s.0 (tt, s.1))
      (λ u. frame_kept K proper b x clean (around_branch {sc = sc} {s = q} {before = front} {after = back} kind slot bs m cs z y1 y2) ok cl here Over (λ v. refl) (omega (arith, u)) w)
  through_moves here (OfInstance m fin front seat back r rest) f (Ends v) w d c o (around_instance done k1 q z fit y1 y2 t g) ok cl i s h hd k =
      instance_ends here m fin front seat.number back r rest o (focus_grip b x (Spawned seat.number) f) w i.room i.most s.0 s.1 s.2
  through_moves here (OfCall q) f (Leaves node y) w d c o a ok cl i s h hd k = nothing here _ w (Leaves node y) w tt (λ u. refl)
  through_moves here (OfPar q front back) f (Leaves node y) w d c o a ok cl i s h hd k = nothing here _ w (Leaves node y) w tt (λ u. refl)
  through_moves here (OfInstance m fin front seat back r rest) f (Leaves node y) w d c o a ok cl i s h hd k = nothing here _ w (Leaves node y) w tt (λ u. refl)
  through_moves here fr f y w d c o (around_statement done q z fit) ok cl i s h hd k = elim k [ ]
  through_moves here fr f y w d c o (around_end z fit) ok cl i s h hd k = elim k [ ]
  through_moves here fr f y w d c o (around_part m z) ok cl i s h hd k = elim k [ ]
  through_moves here fr f y w d c o (around_turn l m q z) ok cl i s h hd k = elim k [ ]
  through_moves here fr f y w d c o (around_call m es g t k1 q z) ok cl i s h hd k = elim k [ ]
  through_moves here fr f y w d c o (around_branch kind slot bs m cs q y1 y2) ok cl i s h hd k = elim k [ ]
  through_moves here fr f y w d c o (around_instance done k1 q z fit y1 y2 t g) ok cl i s h hd k = elim k [ ]

  -- ---- all of them

  head_first : (here : Body) (f : Focus Act) (y : Outcome) (w : World) → (is_first (leaf f) ≡ true → is_head_outcome y ≡ true) → at_loop is_first f ≡ true → is_head_outcome (up here f y w).outcome ≡ true
  unfolding up
  head_first here (Here a) y w h e = h e
  head_first here (In fr f) y w h e = absurd (false≢true e)

  pub up_moves : (here : Body) (f : Focus Act) (y : Outcome) (w : World) (d e : Part) (o : ℕ) → Around K (suc n) Act f d e → Sound K proper d → Clear b x K clean d → point b x here ≤ o → o + focus_grip b x here f ≤ 3
      → focus_loops_stand b x (cell_in b x w) is_first here f → OutcomeStands (cell_in b x w) (body_of f here) y → (is_first (leaf f) ≡ true → is_head_outcome y ≡ true) → Comes K n e y → Moves here (focus_grip b x here f) w (up here f y w)
  unfolding up focus_grip focus_loops_stand
  up_moves here (Here a) y w d e o nothing_around ok cl p l s h hd k = nothing here 0 w y w h (λ u. refl)
  up_moves here (In fr f) y w d e o (one_around {e = c} a more) ok cl p l s h hd k =
      let sound = frame_sound K proper a ok in
      let clear = frame_clear b x K clean a cl in
      let inner = up_moves (body_in fr here) f y w c e (o + frame_grip b x here fr) more sound clear (let q = body_point b x here fr in omega (arith, p, q)) (omega (arith, l)) s.1 h hd k in
      let m = up (body_in fr here) f y w in
      let outer = through_moves here fr f m.outcome m.world d c o a ok cl
      (record { room = p; most = omega (arith, l); inside = λ u. focus_kept K proper b x clean f c e more sound clear (body_in fr here) u m.world })
      (carry here fr o (focus_grip b x (body_in fr here) f) (at_loop is_first f) (cell_in b x w) (cell_in b x m.world) p (omega (arith, l)) inner.kept s.0) inner.stands (head_first (body_in fr here) f y w hd)
      (up_fits K proper n (body_in fr here) f y w c e sound more k) in
      nothing here _ w (through here fr f m.outcome m.world).outcome (through here fr f m.outcome m.world).world outer.stands (λ u. outer.kept u ∙ inner.kept (omega (arith, u)))

  taken_stands : (here : Body) (d : Part) (f : Focus Act) (y : Outcome) (cell : Option Cell) → Closed K proper d → Comes K n d y → OutcomeStands cell here y → OutcomeStands cell here (taken f y)
  taken_stands here (ABlock false sc c) f (Goes g) cell q k h = h
  taken_stands here (ABlock false sc c) f (Rests r) cell q k h = h
  taken_stands here (ABlock false sc c) f (Raises r) cell q k h = h
  taken_stands here (ABlock false sc c) f (Fails z r) cell q k h = tt
  taken_stands here (ABlock false sc c) f (Ends v) cell q k h = tt
  taken_stands here (ABlock false sc c) f (Leaves node z) cell q k h = absurd (q node k.0 k.1)
  taken_stands here (ABlock false sc c) f y cell q k h = elim k [ ]
  taken_stands here d f y cell q k h = elim q [ ]

  pub answered_moves : (here : Body) (f : Focus Act) (y : Outcome) (w : World) (d e : Part) (o : ℕ) → Closed K proper d → Around K (suc n) Act f d e → Sound K proper d → Clear b x K clean d → point b x here ≤ o → o + focus_grip b x here f ≤ 3
      → focus_loops_stand b x (cell_in b x w) is_first here f → OutcomeStands (cell_in b x w) (body_of f here) y → (is_first (leaf f) ≡ true → is_head_outcome y ≡ true) → Comes K n e y → Moves here (focus_grip b x here f) w (answered here f y w)
  answered_moves here f y w d e o q a ok cl p l s h hd k =
      let m = up_moves here f y w d e o a ok cl p l s h hd k in
      record { stands = taken_stands here d f (up here f y w).outcome (cell_in b x (up here f y w).world) q (up_fits K proper n here f y w d e ok a k) m.stands; kept = m.kept }
