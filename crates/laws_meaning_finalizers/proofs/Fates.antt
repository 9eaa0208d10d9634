-- What a step leaves where it faults and where an exit goes on: the focus and the world as they were. And what it keeps of the values.
use Rattle.std.proofs.Common.{◌≡◌, sym, ap, ℕ, ◌+◌, pos, ◌+ℤ◌, int_lt, Bool, true, false, if◌then◌else◌, ◌==◌, List, arith}
use Rattle.ceu_base.specs.declared.kinds.Fault.TheVariants.{LoopLimit}
use Rattle.ceu_tree.specs.declared.kernel.KCode.{KCode}
use Rattle.ceu_tree.specs.declared.kernel.KLoop.{KLoop}
use Rattle.ceu_tree.specs.declared.kernel.KLoop.TheVariants as turns
use Rattle.ceu_tree.specs.declared.kernel.ParKind.{ParKind}
use Rattle.ceu_tree.specs.declared.kernel.ParKind.TheVariants as par
use Rattle.ceu_tree.specs.declared.kernel.KNode.{KNode}
use Rattle.ceu_tree.specs.declared.kernel.KBlock.{KBlock, out-KBlock}
use Rattle.ceu_tree.specs.declared.kernel.KStmt.{out-KStmt}
use Rattle.ceu_tree.specs.declared.kernel.KStmt.TheOpen.{KStmt-F}
use Rattle.ceu_tree.specs.Residual.{Body, Awaited, Act, Counter, Turns, Upward, Over, Loop, Par, Branches, branch, Instances}
use Rattle.ceu_tree.specs.Focus.{Frame, OfBlock, OfInstance, OfOpen, OfLoop, OfCall, OfPar, Focus, Here, In, join, fill, plug, body_in}
use Rattle.ceu_tree.specs.World.{World, Holds, set}
use Rattle.ceu_tree.specs.Abort.{aborted, forget_loop, returned}
use Rattle.ceu_tree.specs.Leaf.{Layer, Exit, Escape, Break, Continue, target}
use Rattle.ceu_tree.specs.Around.{Outcome, Goes, Rests, Raises, Fails, Past, Registers, AtBlockEnd, AtLoopHead, Ends, Leaves, Moved, moved, value_with, body_left, open_left, begins_turn, turn_of, next_turn, loop_exit, loop_left, all_over, kind_of, rejoined, through, up, taken, answered}
use Rattle.laws_meaning_values.specs.Ground.{has}
use Rattle.laws_meaning_values.proofs.Stores.{set_keeps, assign_if_keeps}
use Rattle.laws_meaning_counters.proofs.Grips.{own}
use Rattle.laws_meaning_assigned.proofs.Grips.{slots_grip, grip_each, grip_all, frame_grip, focus_grip, over_branches}
use Rattle.laws_meaning_assigned.proofs.Aborts.{body_spared, loop_spared, each_spared, closed_spared, focus_spared, dead_spared}

-- ---- faults and exits

-- of the focus f, where it all began in the world v
abbrev pub Fate : Focus Act → World → Outcome → World → Type 0
Fate f v (Fails e r) u = (u ≡ v) × (r ≡ plug f Over)
Fate f v (Leaves node x) u = u ≡ v
Fate f v AtLoopHead u = (u ≡ v) × (plug f Over ≡ Over)
Fate f v y u = Unit {0}

abbrev Ends' : Focus Act → World → Moved → Type 0
Ends' f v m = Fate f v m.outcome m.world

body_left_fate : (t : Bool) (b : KBlock) (fin : List KNode) (all : Instances) (f : Focus Act) (body : Body) (node : ℕ) (x : Exit) (u v : World) (g : Focus Act) → u ≡ v → Ends' g v (body_left t b fin all f body node x u)
body_left_fate true b fin all f body node x u v g e = tt
body_left_fate false b fin all f body node x u v g e = e

open_left_fate : (t : Bool) (s : KNode) (f : Focus Act) (body : Body) (node : ℕ) (x : Exit) (u v : World) (g : Focus Act) → u ≡ v → Ends' g v (open_left t s f body node x u)
open_left_fate true s f body node x u v g e = tt
open_left_fate false s f body node x u v g e = e

loop_exit_fate : (s : KNode) (c : Counter) (x : Exit) (body : Body) (u v : World) (g : Focus Act) → Ends' g v (loop_exit s c x body u)
loop_exit_fate s c Continue body u v g = tt
loop_exit_fate s c Break body u v g = tt
loop_exit_fate s c (Escape z) body u v g = tt

loop_left_fate : (t : Bool) (s : KNode) (c : Counter) (f : Focus Act) (body : Body) (node : ℕ) (x : Exit) (u v : World) (g : Focus Act) → u ≡ v → Ends' g v (loop_left t s c f body node x u)
loop_left_fate true s c f body node x u v g e = loop_exit_fate s c x body _ v g
loop_left_fate false s c f body node x u v g e = e

rejoined_fate : (k : ParKind) (s : KNode) (bs : Branches) (body : Body) (u v : World) (g : Focus Act) → Ends' g v (rejoined k s bs body u)
rejoined_fate par.Never s bs body u v g = tt
rejoined_fate par.Or s bs body u v g = tt
rejoined_fate par.And s bs body u v g = go (all_over bs)
  where
    go : (t : Bool) → Ends' g v (if t then moved Past u else moved (Rests (Par s bs)) u)
    go true = tt
    go false = tt

turn_fate : (s : KNode) (k : KLoop) (b : KBlock) (c : Counter) (body : Body) (f : Focus Act) (u v : World) → u ≡ v → plug f Over ≡ Over → Ends' (In (OfLoop s c) f) v (turn_of s k b c body u)
turn_fate s (turns.Times slot limit) b (Turns k) body f u v e p = go (k == limit)
  where
    go : (t : Bool) → Ends' (In (OfLoop s (Turns k)) f) v (if t then moved (Fails (LoopLimit, s.pos) (Loop s (Turns k) Over)) u else begins_turn s (Turns (k + 1)) b u)
    go true = (e, ap (Loop s (Turns k)) (sym p))
    go false = tt
turn_fate s (turns.Range i next end open_a x y open_b) b (Upward n last) body f u v e p = go (int_lt last n)
  where
    go : (t : Bool) → Ends' (In (OfLoop s (Upward n last)) f) v (if t then moved Past (forget_loop body s.stmt u) else begins_turn s (Upward (n +ℤ pos 1) last) b (set body i (Holds n) u))
    go true = tt
    go false = tt
turn_fate s k b c body f u v e p = tt

next_turn_fate : (s : KNode) (layer : Layer) (c : Counter) (body : Body) (f : Focus Act) (u v : World) → u ≡ v → plug f Over ≡ Over → Ends' (In (OfLoop s c) f) v (next_turn s layer c body u)
next_turn_fate s (KStmt-F.Loop k b) c body f u v e p = turn_fate s k b c body f u v e p
next_turn_fate s layer c body f u v e p = tt

through_fate : (body : Body) (fr : Frame) (f : Focus Act) (y : Outcome) (u v : World) → Fate f v y u → Ends' (In fr f) v (through body fr f y u)
through_fate body fr f (Goes g) u v h = tt
through_fate body fr f (Rests r) u v h = tt
through_fate body fr f (Raises r) u v h = tt
through_fate body fr f (Fails e r) u v h = (h.0, ap (fill fr) h.1)
through_fate body (OfBlock b fin all rest) f Past u v h = tt
through_fate body (OfBlock b fin all rest) f (Registers s) u v h = tt
through_fate body (OfBlock b fin all rest) f AtBlockEnd u v h = tt
through_fate body (OfBlock b fin all rest) f (Leaves node x) u v h = body_left_fate (node == (out-KBlock b).node) b fin all f body node x u v (In (OfBlock b fin all rest) f) h
through_fate body (OfOpen s) f (Ends z) u v h = tt
through_fate body (OfOpen s) f (Leaves node x) u v h = open_left_fate (node == s.node) s f body node x u v (In (OfOpen s) f) h
through_fate body (OfLoop s c) f AtLoopHead u v h = next_turn_fate s (out-KStmt s.stmt) c body f u v h.0 h.1
through_fate body (OfLoop s c) f (Ends z) u v h = tt
through_fate body (OfLoop s c) f (Leaves node x) u v h = loop_left_fate (node == s.node) s c f body node x u v (In (OfLoop s c) f) h
through_fate body (OfCall s) f (Ends z) u v h = tt
through_fate body (OfPar s before after) f (Ends z) u v h = rejoined_fate (kind_of (out-KStmt s.stmt)) s (join before (branch Over after)) body u v (In (OfPar s before after) f)
through_fate body (OfInstance b fin before seat after r rest) f (Ends z) u v h = tt
through_fate body fr f (Leaves node x) u v h = h
through_fate body fr f y u v h = tt

pub up_fate : (body : Body) (f : Focus Act) (y : Outcome) (v : World) → ((a : Act) → Fate (Here a) v y v) → Fate f v (up body f y v).outcome (up body f y v).world
unfolding up
up_fate body (Here a) y v h = h a
up_fate body (In fr f) y v h = through_fate body fr f (up (body_in fr body) f y v).outcome (up (body_in fr body) f y v).world v (up_fate (body_in fr body) f y v h)

taken_fate : (g f : Focus Act) (y : Outcome) (u v : World) → Fate f v y u → Fate f v (taken g y) u
taken_fate g f (Goes x) u v h = tt
taken_fate g f (Rests r) u v h = tt
taken_fate g f (Raises r) u v h = tt
taken_fate g f (Fails e r) u v h = h
taken_fate g f (Ends z) u v h = tt
taken_fate g f (Leaves node x) u v h = tt
taken_fate g f y u v h = tt

pub answered_fate : (body : Body) (f : Focus Act) (y : Outcome) (v : World) → ((a : Act) → Fate (Here a) v y v) → Fate f v (answered body f y v).outcome (answered body f y v).world
answered_fate body f y v h = taken_fate f f (up body f y v).outcome (up body f y v).world v (up_fate body f y v h)

-- ---- values that the parts around a leaf have no hold of

module _ (codes : List KCode) (b : Body) (x : ℕ) where
  abbrev Kept : World → Moved → Type 0
  Kept w m = has b x w ≡ true → has b x m.world ≡ true

  body_left_kept : (t : Bool) (c : KBlock) (fin : List KNode) (all : Instances) (f : Focus Act) (here : Body) (node : ℕ) (z : Exit) (w : World) → slots_grip codes b x here (out-KBlock c).decls + grip_all codes b x all + focus_grip codes b x here f ≡ 0 → Kept w (body_left t c fin all f here node z w)
  body_left_kept true c fin all f here node z w l h = closed_spared codes b x c fin all here (aborted (plug f Over) here w) (omega (arith, l)) (focus_spared codes b x f here w (omega (arith, l)) h)
  body_left_kept false c fin all f here node z w l h = h

  open_left_kept : (t : Bool) (s : KNode) (f : Focus Act) (here : Body) (node : ℕ) (z : Exit) (w : World) → focus_grip codes b x here f ≡ 0 → Kept w (open_left t s f here node z w)
  open_left_kept true s f here node z w l h = assign_if_keeps b x here (target s) (value_with z) (aborted (plug f Over) here w) (focus_spared codes b x f here w l h)
  open_left_kept false s f here node z w l h = h

  loop_exit_kept : (s : KNode) (j : Counter) (z : Exit) (here : Body) (w : World) → own b x here (out-KStmt s.stmt) ≡ 0 → Kept w (loop_exit s j z here w)
  loop_exit_kept s j Continue here w l h = h
  loop_exit_kept s j Break here w l h = loop_spared codes b x here s w l h
  loop_exit_kept s j (Escape v) here w l h = loop_spared codes b x here s w l h

  loop_left_kept : (t : Bool) (s : KNode) (j : Counter) (f : Focus Act) (here : Body) (node : ℕ) (z : Exit) (w : World) → own b x here (out-KStmt s.stmt) + focus_grip codes b x here f ≡ 0 → Kept w (loop_left t s j f here node z w)
  loop_left_kept true s j f here node z w l h = loop_exit_kept s j z here (aborted (plug f Over) here w) (omega (arith, l)) (focus_spared codes b x f here w (omega (arith, l)) h)
  loop_left_kept false s j f here node z w l h = h

  rejoined_kept : (k : ParKind) (s : KNode) (bs : Branches) (here : Body) (w : World) → grip_each codes b x here bs ≡ 0 → Kept w (rejoined k s bs here w)
  unfolding aborted
  rejoined_kept par.Never s bs here w l h = h
  rejoined_kept par.Or s bs here w l h = each_spared codes b x bs here w l h
  rejoined_kept par.And s bs here w l h = go (all_over bs)
    where
      go : (t : Bool) → has b x (if t then moved Past w else moved (Rests (Par s bs)) w).world ≡ true
      go true = h
      go false = h

  turn_kept : (s : KNode) (k : KLoop) (c : KBlock) (j : Counter) (here : Body) (w : World) → own b x here (out-KStmt s.stmt) ≡ 0 → Kept w (turn_of s k c j here w)
  turn_kept s (turns.Times slot limit) c (Turns m) here w l h = go (m == limit)
    where
      go : (t : Bool) → has b x (if t then moved (Fails (LoopLimit, s.pos) (Loop s (Turns m) Over)) w else begins_turn s (Turns (m + 1)) c w).world ≡ true
      go true = h
      go false = h
  turn_kept s (turns.Range i next end open_a y1 y2 open_b) c (Upward n last) here w l h = go (int_lt last n)
    where
      go : (t : Bool) → has b x (if t then moved Past (forget_loop here s.stmt w) else begins_turn s (Upward (n +ℤ pos 1) last) c (set here i (Holds n) w)).world ≡ true
      go true = loop_spared codes b x here s w l h
      go false = set_keeps b x here i (Holds n) w h
  turn_kept s k c j here w l h = h

  next_turn_kept : (s : KNode) (layer : Layer) (j : Counter) (here : Body) (w : World) → own b x here (out-KStmt s.stmt) ≡ 0 → Kept w (next_turn s layer j here w)
  next_turn_kept s (KStmt-F.Loop k c) j here w l h = turn_kept s k c j here w l h
  next_turn_kept s layer j here w l h = h

  through_kept : (here : Body) (fr : Frame) (f : Focus Act) (y : Outcome) (w : World) → frame_grip codes b x here fr + focus_grip codes b x (body_in fr here) f ≡ 0 → Kept w (through here fr f y w)
  through_kept here fr f (Goes g) w l h = h
  through_kept here fr f (Rests r) w l h = h
  through_kept here fr f (Raises r) w l h = h
  through_kept here fr f (Fails e r) w l h = h
  through_kept here (OfBlock c fin all rest) f Past w l h = h
  through_kept here (OfBlock c fin all rest) f (Registers s) w l h = h
  through_kept here (OfBlock c fin all rest) f AtBlockEnd w l h = closed_spared codes b x c fin all here w (omega (arith, l)) h
  through_kept here (OfBlock c fin all rest) f (Leaves node z) w l h = body_left_kept (node == (out-KBlock c).node) c fin all f here node z w l h
  through_kept here (OfOpen s) f (Ends v) w l h = assign_if_keeps b x here (target s) v w h
  through_kept here (OfOpen s) f (Leaves node z) w l h = open_left_kept (node == s.node) s f here node z w (omega (arith, l)) h
  through_kept here (OfLoop s j) f AtLoopHead w l h = next_turn_kept s (out-KStmt s.stmt) j here w (omega (arith, l)) h
  through_kept here (OfLoop s j) f (Ends v) w l h = h
  through_kept here (OfLoop s j) f (Leaves node z) w l h = loop_left_kept (node == s.node) s j f here node z w l h
  through_kept here (OfCall s) f (Ends v) w l h = assign_if_keeps b x here (target s) v (returned here s w) (body_spared codes b x (Awaited here s.node) w (omega (arith, l)) h)
  through_kept here (OfPar s front back) f (Ends v) w l h = rejoined_kept (kind_of (out-KStmt s.stmt)) s (join front (branch Over back)) here w (let a = over_branches codes b x here front back in omega (arith, a, l)) h
  through_kept here (OfInstance c fin front seat back r rest) f (Ends v) w l h = dead_spared codes b x seat.number w (omega (arith, l)) h
  through_kept here fr f (Leaves node z) w l h = h
  through_kept here fr f y w l h = h

  pub up_kept : (here : Body) (f : Focus Act) (y : Outcome) (w : World) → focus_grip codes b x here f ≡ 0 → has b x w ≡ true → has b x (up here f y w).world ≡ true
  unfolding up focus_grip
  up_kept here (Here a) y w l h = h
  up_kept here (In fr f) y w l h = through_kept here fr f (up (body_in fr here) f y w).outcome (up (body_in fr here) f y w).world l (up_kept (body_in fr here) f y w (omega (arith, l)) h)
