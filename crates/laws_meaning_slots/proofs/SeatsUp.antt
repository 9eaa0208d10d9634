-- What the parts around a leaf do, and what the leaf does, leaves the seats of instances as they are.
use Rattle.std.proofs.Common.{ℕ, ℤ, int_lt, Bool, true, false, if◌then◌else◌, ◌==◌, List, [], ◌∷◌, Option, Some, None, Result, Ok, Err}
use Rattle.ceu_base.specs.declared.kinds.Pos.{Pos}
use Rattle.ceu_base.specs.declared.kinds.Fault.{Fault}
use Rattle.ceu_tree.specs.declared.kernel.Kernel.{Kernel}
use Rattle.ceu_tree.specs.declared.kernel.KCode.{KCode}
use Rattle.ceu_tree.specs.declared.kernel.KLoop.{KLoop}
use Rattle.ceu_tree.specs.declared.kernel.KLoop.TheVariants as turns
use Rattle.ceu_tree.specs.declared.kernel.ParKind.{ParKind}
use Rattle.ceu_tree.specs.declared.kernel.ParKind.TheVariants as par
use Rattle.ceu_tree.specs.declared.kernel.KNode.{KNode}
use Rattle.ceu_tree.specs.declared.kernel.KBlock.{KBlock, out-KBlock}
use Rattle.ceu_tree.specs.declared.kernel.KStmt.{out-KStmt}
use Rattle.ceu_tree.specs.declared.kernel.KStmt.TheOpen.{KStmt-F}
use Rattle.ceu_tree.specs.Residual.{Body, Act, Begin, Start, Finish, AtEnd, AtHead, Again, Counter, Turns, Upward, Over, Branches, branch, Instances}
use Rattle.ceu_tree.specs.Focus.{Frame, OfBlock, OfInstance, OfOpen, OfLoop, OfCall, OfPar, Focus, Here, In, join, body_in}
use Rattle.ceu_tree.specs.World.{World, Cell, Holds, NotSet, Names, look}
use Rattle.ceu_tree.specs.Expressions.{names_living, value_of, value_if, values_of}
use Rattle.ceu_tree.specs.Leaf as does
use Rattle.ceu_tree.specs.Leaf.{Layer, Does, Exit, Escape, Break, Continue, Done, done, or_fails, branches_from, in_branches, chosen_part, loop_reached, called, spawning, killing, code_at, started, acted}
use Rattle.ceu_tree.specs.Around.{Outcome, Goes, Rests, Raises, Fails, Past, Registers, AtBlockEnd, AtLoopHead, Ends, Leaves, Moved, body_left, open_left, turn_of, next_turn, loop_exit, loop_left, all_over, kind_of, rejoined, through, up, taken, answered}
use Rattle.ceu_tree.specs.Legal.{Seated}
use Rattle.laws_meaning_slots.proofs.Seats.{each_seat, branches_seats, frame_seats, focus_seats, join_seats, join_all_seats, fill_seats, plug_seats}

module _ (P : Seated → Type 0) where
  abbrev pub OutcomeSeats : Outcome → Body → Type 0
  OutcomeSeats (Goes g) body = focus_seats P g body
  OutcomeSeats (Rests r) body = each_seat P r body
  OutcomeSeats (Raises r) body = each_seat P r body
  OutcomeSeats (Fails e r) body = each_seat P r body
  OutcomeSeats x body = Unit {0}

  abbrev Fine : Moved → Body → Type 0
  Fine m body = OutcomeSeats m.outcome body

  body_left_seats : (t : Bool) (b : KBlock) (fin : List KNode) (all : Instances) (f : Focus Act) (body : Body) (node : ℕ) (x : Exit) (w : World)
      → Fine (body_left t b fin all f body node x w) body
  body_left_seats true b fin all f body node x w = tt
  body_left_seats false b fin all f body node x w = tt

  open_left_seats : (t : Bool) (s : KNode) (f : Focus Act) (body : Body) (node : ℕ) (x : Exit) (w : World) → Fine (open_left t s f body node x w) body
  open_left_seats true s f body node x w = tt
  open_left_seats false s f body node x w = tt

  either : (b : Bool) (body : Body) (x y : Moved) → Fine x body → Fine y body → Fine (if b then x else y) body
  either true body x y h k = h
  either false body x y h k = k

  turn_seats : (s : KNode) (k : KLoop) (b : KBlock) (c : Counter) (body : Body) (w : World) → Fine (turn_of s k b c body w) body
  unfolding each_seat focus_seats
  turn_seats s (turns.Times slot limit) b (Turns j) body w = either (j == limit) body _ _ tt (tt, tt)
  turn_seats s (turns.Range i next end open_a x y open_b) b (Upward v last) body w = either (int_lt last v) body _ _ tt (tt, tt)
  turn_seats s k b c body w = (tt, tt)

  next_turn_seats : (s : KNode) (layer : Layer) (c : Counter) (body : Body) (w : World) → Fine (next_turn s layer c body w) body
  next_turn_seats s (KStmt-F.Loop k b) c body w = turn_seats s k b c body w
  next_turn_seats s layer c body w = tt

  loop_exit_seats : (s : KNode) (c : Counter) (x : Exit) (body : Body) (w : World) → Fine (loop_exit s c x body w) body
  unfolding focus_seats
  loop_exit_seats s c Continue body w = (tt, tt)
  loop_exit_seats s c Break body w = tt
  loop_exit_seats s c (Escape v) body w = tt

  loop_left_seats : (t : Bool) (s : KNode) (c : Counter) (f : Focus Act) (body : Body) (node : ℕ) (x : Exit) (w : World)
      → Fine (loop_left t s c f body node x w) body
  loop_left_seats true s c f body node x w = loop_exit_seats s c x body _
  loop_left_seats false s c f body node x w = tt

  rejoined_seats : (k : ParKind) (s : KNode) (bs : Branches) (body : Body) (w : World) → branches_seats P bs body → Fine (rejoined k s bs body w) body
  unfolding each_seat
  rejoined_seats par.Never s bs body w h = h
  rejoined_seats par.Or s bs body w h = tt
  rejoined_seats par.And s bs body w h = either (all_over bs) body _ _ tt h

  through_seats : (body : Body) (fr : Frame) (f : Focus Act) (x : Outcome) (w : World) → frame_seats P fr body → OutcomeSeats x (body_in fr body)
      → Fine (through body fr f x w) body
  unfolding each_seat focus_seats
  through_seats body fr f (Goes g) w h k = (h, k)
  through_seats body fr f (Rests r) w h k = fill_seats P fr r body h k
  through_seats body fr f (Raises r) w h k = fill_seats P fr r body h k
  through_seats body fr f (Fails e r) w h k = fill_seats P fr r body h k
  through_seats body (OfBlock b fin all rest) f Past w h k = (h, tt)
  through_seats body (OfBlock b fin all rest) f (Registers s) w h k = (h, tt)
  through_seats body (OfBlock b fin all rest) f AtBlockEnd w h k = tt
  through_seats body (OfBlock b fin all rest) f (Leaves node x) w h k = body_left_seats (node == (out-KBlock b).node) b fin all f body node x w
  through_seats body (OfOpen s) f (Ends v) w h k = tt
  through_seats body (OfOpen s) f (Leaves node x) w h k = open_left_seats (node == s.node) s f body node x w
  through_seats body (OfLoop s c) f AtLoopHead w h k = next_turn_seats s (out-KStmt s.stmt) c body w
  through_seats body (OfLoop s c) f (Ends v) w h k = (tt, tt)
  through_seats body (OfLoop s c) f (Leaves node x) w h k = loop_left_seats (node == s.node) s c f body node x w
  through_seats body (OfCall s) f (Ends v) w h k = tt
  through_seats body (OfPar s front back) f (Ends v) w h k = rejoined_seats (kind_of (out-KStmt s.stmt)) s (join front (branch Over back)) body w (join_seats P front (branch Over back) body h.0 (tt, h.1))
  through_seats body (OfInstance b fin front seat back r rest) f (Ends v) w h k = (join_all_seats P front back body h.0 h.2, h.3)
  through_seats body fr f (Leaves node x) w h k = tt
  through_seats body fr f x w h k = fill_seats P fr Over body h tt

  up_seats : (body : Body) (f : Focus Act) (x : Outcome) (w : World) → focus_seats P f body → ((b : Body) → OutcomeSeats x b) → Fine (up body f x w) body
  unfolding up focus_seats
  up_seats body (Here a) x w h k = k body
  up_seats body (In fr f) x w h k = through_seats body fr f (up (body_in fr body) f x w).outcome (up (body_in fr body) f x w).world h.0 (up_seats (body_in fr body) f x w h.1 k)

  taken_seats : (f : Focus Act) (x : Outcome) (body : Body) → focus_seats P f body → OutcomeSeats x body → OutcomeSeats (taken f x) body
  unfolding each_seat
  taken_seats f (Goes g) body h k = k
  taken_seats f (Rests r) body h k = k
  taken_seats f (Raises r) body h k = k
  taken_seats f (Fails e r) body h k = k
  taken_seats f (Ends v) body h k = tt
  taken_seats f (Leaves node x) body h k = plug_seats P f Over body h tt
  taken_seats f x body h k = tt

  pub answered_seats : (root : Body) (f : Focus Act) (x : Outcome) (w : World) → focus_seats P f root → ((b : Body) → OutcomeSeats x b)
      → Fine (answered root f x w) root
  answered_seats root f x w h k = taken_seats f (up root f x w).outcome root h (up_seats root f x w h k)

  -- ---- a leaf

  abbrev pub Fresh : Does → Body → Type 0
  Fresh (does.Opens x) body = focus_seats P x body
  Fresh (does.Waits r) body = each_seat P r body
  Fresh d body = Unit {0}

  module _ (body : Body) (w : World) where
    or_fails_fresh : {A : Type 0} (a : Result A (Fault × Pos)) (go : A → Done) → ((x : A) → Fresh (go x).does body) → Fresh (or_fails a w go).does body
    or_fails_fresh (Ok x) go h = h x
    or_fails_fresh (Err e) go h = tt

    fresh_branches : (n : ℕ) (bs : List KBlock) → branches_seats P (branches_from n bs) body
    unfolding each_seat
    fresh_branches n [] = tt
    fresh_branches n (b ∷ bs) = (tt, fresh_branches n bs)

    par_fresh : (n : ℕ) (s : KNode) (bs : List KBlock) → Fresh (in_branches n s bs) body
    unfolding each_seat focus_seats
    par_fresh n s [] = tt
    par_fresh n s (b ∷ bs) = ((tt, fresh_branches n bs), tt)

    loop_fresh : (s : KNode) (k : KLoop) → Fresh (loop_reached s k body w).does body
    unfolding focus_seats
    loop_fresh s turns.Free = (tt, tt)
    loop_fresh s (turns.Times slot n) = (tt, tt)
    loop_fresh s (turns.Range i next end open_a a b open_b) = or_fails_fresh (value_of a body w) _ (λ x. or_fails_fresh (value_of b body w) _ (λ y. (tt, tt)))

    called_fresh : (s : KNode) (c : Option KCode) (vs : List ℤ) → Fresh (called s c vs body w).does body
    unfolding focus_seats
    called_fresh s None vs = tt
    called_fresh s (Some c) vs = (tt, tt)

    spawning_fresh : (s : KNode) (c : Option KCode) (code pool : ℕ) (alias : Option ℕ) (vs : List ℤ) → Fresh (spawning s c code pool alias vs w).does body
    spawning_fresh s None code pool alias vs = tt
    spawning_fresh s (Some c) code pool alias vs = tt

    killing_fresh : (c : Option Cell) (living : List ℕ) → Fresh (killing c living) body
    killing_fresh (Some (Names n)) living = go (names_living (Some (Names n)) living)
      where
        go : (b : Bool) → Fresh (if b then does.Kills n else does.Passes) body
        go true = tt
        go false = tt
    killing_fresh (Some (Holds v)) living = tt
    killing_fresh (Some NotSet) living = tt
    killing_fresh None living = tt

    started_fresh : (K : Kernel) (n : ℕ) (s : KNode) (layer : Layer) → Fresh (started K n body s layer w).does body
    unfolding each_seat focus_seats
    started_fresh K n s (KStmt-F.Assign l e) = or_fails_fresh (value_of e body w) _ (λ v. tt)
    started_fresh K n s (KStmt-F.Out k e) = or_fails_fresh (value_if e body w) _ (λ v. tt)
    started_fresh K n s (KStmt-F.Emit k e) = or_fails_fresh (value_if e body w) _ (λ v. tt)
    started_fresh K n s (KStmt-F.AwaitTime e u t) = or_fails_fresh (value_of e body w) _ (λ v. tt)
    started_fresh K n s (KStmt-F.AwaitCode c es frame t) = or_fails_fresh (values_of es body w) _ (λ vs. called_fresh s (code_at c K.codes) vs)
    started_fresh K n s (KStmt-F.Spawn c es pool alias) = or_fails_fresh (values_of es body w) _ (λ vs. spawning_fresh s (code_at c K.codes) c pool alias vs)
    started_fresh K n s (KStmt-F.Kill c) = killing_fresh (look body c w.values) w.living
    started_fresh K n s (KStmt-F.Do t b) = (tt, tt)
    started_fresh K n s (KStmt-F.Escape node e) = or_fails_fresh (value_if e body w) _ (λ v. tt)
    started_fresh K n s (KStmt-F.If arms last) = or_fails_fresh (chosen_part arms last body w) _ (λ b. (tt, tt))
    started_fresh K n s (KStmt-F.Loop kind b) = loop_fresh s kind
    started_fresh K n s (KStmt-F.Par kind slot bs) = par_fresh n s bs
    started_fresh K n s layer = tt

    pub acted_seats : (K : Kernel) (n : ℕ) (a : Act) → Fresh (acted K n body a w).does body
    unfolding each_seat focus_seats
    acted_seats K n (Begin b) = (tt, tt)
    acted_seats K n (Start s) = started_fresh K n s (out-KStmt s.stmt)
    acted_seats K n (Finish s v) = tt
    acted_seats K n AtEnd = tt
    acted_seats K n AtHead = tt
    acted_seats K n Again = tt
