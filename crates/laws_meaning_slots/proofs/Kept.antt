-- What a step does besides a spawn names no instance anew: a test of values that all cells but names pass goes on to hold.
use Rattle.std.proofs.Common.{◌≡◌, refl, ◌≤◌, ℕ, ℤ, int_lt, Bool, true, false, not, if◌then◌else◌, ◌==◌, List, [], ◌∷◌, Option, Some, None, Result, Ok, Err}
use Rattle.ceu_base.specs.declared.kinds.Pos.{Pos}
use Rattle.ceu_base.specs.declared.kinds.Fault.{Fault}
use Rattle.ceu_base.specs.declared.kinds.Mark.TheVariants.{Output, Ran}
use Rattle.ceu_tree.specs.declared.kernel.Kernel.{Kernel}
use Rattle.ceu_tree.specs.declared.kernel.KCode.{KCode}
use Rattle.ceu_tree.specs.declared.kernel.KDecl.{KDecl}
use Rattle.ceu_tree.specs.declared.kernel.KLoop.{KLoop}
use Rattle.ceu_tree.specs.declared.kernel.KLoop.TheVariants as turns
use Rattle.ceu_tree.specs.declared.kernel.Loc.{Loc}
use Rattle.ceu_tree.specs.declared.kernel.ParKind.{ParKind}
use Rattle.ceu_tree.specs.declared.kernel.ParKind.TheVariants as par
use Rattle.ceu_tree.specs.declared.kernel.KNode.{KNode}
use Rattle.ceu_tree.specs.declared.kernel.KBlock.{KBlock, out-KBlock}
use Rattle.ceu_tree.specs.declared.kernel.KStmt as kernel
use Rattle.ceu_tree.specs.declared.kernel.KStmt.{KStmt, Assign, Out, out-KStmt}
use Rattle.ceu_tree.specs.declared.kernel.KStmt.TheOpen.{KStmt-F}
use Rattle.ceu_tree.specs.Residual.{Body, Awaited, Spawned, same_body, Act, Begin, Start, Finish, AtEnd, AtHead, Again, Counter, Turns, Upward, Residual, Over, Run, WaitInput, WaitTime, WaitEvent, WaitForever, InAsync, Block, Open, Loop, Call, Par, Branches, no_branch, branch, Instances, no_instance, instance}
use Rattle.ceu_tree.specs.Focus.{Frame, OfBlock, OfInstance, OfOpen, OfLoop, OfCall, OfPar, Focus, Here, In, plug, join, body_in}
use Rattle.ceu_tree.specs.World.{Cell, Holds, NotSet, Names, Held, World, marked, is_at, set, assign, assign_if, place_of, set_parameters, forget, forget_declared, forget_body, dead}
use Rattle.ceu_tree.specs.Expressions.{Answer, value_of, value_if, values_of}
use Rattle.ceu_tree.specs.Abort.{or_fault, simple, unless_fault, all_simple, finalizer_list, runs_one, finalized, forget_turns, forget_loop, returned, aborted, branches_aborted, instances_aborted, closed}
use Rattle.ceu_tree.specs.Leaf.{Layer, Exit, Escape, Break, Continue, Done, or_fails, chosen_part, loop_reached, called, spawning, code_at, started, acted, target}
use Rattle.ceu_tree.specs.Around.{Outcome, Goes, Rests, Raises, Fails, Past, Registers, AtBlockEnd, AtLoopHead, Ends, Leaves, Moved, value_with, body_left, open_left, turn_of, next_turn, loop_exit, loop_left, all_over, kind_of, rejoined, through, up, answered}
use Rattle.ceu_tree.specs.Step.{killed_in, kill_frame, killed}
use Rattle.laws_meaning_slots.proofs.Values.{held, lie_filter, lie_put}
use Rattle.laws_meaning_slots.proofs.Aborts.{LieIn}

abbrev pub is_name : Cell → Bool
is_name (Names k) = true
is_name c = false

module _ (m : Held → ℕ) (plain : (b : Body) (s : ℕ) (c : Cell) → is_name c ≡ false → 1 ≤ m (held b s c)) where
  abbrev Ok' : World → Type 0
  Ok' w = LieIn m w

  pub set_keeps : (b : Body) (s : ℕ) (c : Cell) (w : World) → is_name c ≡ false → Ok' w → Ok' (set b s c w)
  set_keeps b s c w e x = lie_put m b s c w.values (plain b s c e) x

  assign_keeps : (b : Body) (l : Loc) (v : ℤ) (w : World) → Ok' w → Ok' (assign b l v w)
  assign_keeps b l v w x = set_keeps (place_of l b) l.slot (Holds v) w refl x

  assign_if_keeps : (b : Body) (t : Option Loc) (v : ℤ) (w : World) → Ok' w → Ok' (assign_if b t v w)
  assign_if_keeps b None v w x = x
  assign_if_keeps b (Some l) v w x = assign_keeps b l v w x

  pub parameters_keep : (b : Body) (ds : List KDecl) (vs : List ℤ) (w : World) → Ok' w → Ok' (set_parameters b ds vs w)
  parameters_keep b [] vs w x = x
  parameters_keep b (d ∷ ds) [] w x = x
  parameters_keep b (d ∷ ds) (v ∷ vs) w x = parameters_keep b ds vs (set b d.slot (Holds v) w) (set_keeps b d.slot (Holds v) w refl x)

  forget_keeps : (b : Body) (s : ℕ) (w : World) → Ok' w → Ok' (forget b s w)
  forget_keeps b s w x = lie_filter m m (λ h. not (is_at b s h)) (λ h e n. n) w.values x

  forget_body_keeps : (b : Body) (w : World) → Ok' w → Ok' (forget_body b w)
  forget_body_keeps b w x = lie_filter m m (λ h. not (same_body b h.body)) (λ h e n. n) w.values x

  dead_keeps : (n : ℕ) (w : World) → Ok' w → Ok' (dead n w)
  dead_keeps n w x = lie_filter m m (λ h. not (same_body (Spawned n) h.body)) (λ h e n. n) w.values x

  forget_declared_keeps : (b : Body) (ds : List KDecl) (w : World) → Ok' w → Ok' (forget_declared b ds w)
  forget_declared_keeps b [] w x = x
  forget_declared_keeps b (d ∷ ds) w x = forget_declared_keeps b ds (forget b d.slot w) (forget_keeps b d.slot w x)

  forget_turns_keeps : (b : Body) (k : KLoop) (w : World) → Ok' w → Ok' (forget_turns b k w)
  forget_turns_keeps b (turns.Range i next end open_a y z open_b) w x = forget_keeps b i w x
  forget_turns_keeps b turns.Free w x = x
  forget_turns_keeps b (turns.Times slot n) w x = x

  forget_loop_keeps : (b : Body) (s : KStmt) (w : World) → Ok' w → Ok' (forget_loop b s w)
  forget_loop_keeps b (kernel.Loop k c) w x = forget_turns_keeps b k w x
  forget_loop_keeps b _ w x = x

  -- ---- finalizers and abortions

  simple_keeps : (s : KStmt) (b : Body) (w : World) → Ok' w → Ok' (simple s b w)
  simple_keeps (Assign l e) b w x = go (value_of e b w)
    where
      go : (a : Answer) → Ok' (or_fault a w (λ v. assign b l v w))
      go (Ok v) = assign_keeps b l v w x
      go (Err z) = x
  simple_keeps (Out k e) b w x = go (value_if e b w)
    where
      go : (a : Answer) → Ok' (or_fault a w (λ v. marked (Output k v) w))
      go (Ok v) = x
      go (Err z) = x
  simple_keeps _ b w x = x

  unless_keeps : (f : World → World) (w : World) → Ok' (f w) → Ok' w → Ok' (unless_fault f w)
  unless_keeps f w h k = go w.fault
    where
      go : (o : Option (Fault × Pos)) → Ok' (elim o [ Some e ↦ w | None ↦ f w ])
      go None = h
      go (Some e) = k

  all_simple_keep : (ss : List KNode) (b : Body) (w : World) → Ok' w → Ok' (all_simple ss b w)
  all_simple_keep [] b w x = x
  all_simple_keep (s ∷ ss) b w x = all_simple_keep ss b (unless_fault (simple s.stmt b) w) (unless_keeps (simple s.stmt b) w (simple_keeps s.stmt b w x) x)

  finalized_keeps : (ss : List KNode) (b : Body) (w : World) → Ok' w → Ok' (finalized ss b w)
  finalized_keeps [] b w x = x
  finalized_keeps (s ∷ ss) b w x = finalized_keeps ss b (unless_fault (runs_one s b) w) (unless_keeps (runs_one s b) w (all_simple_keep (finalizer_list s.stmt) b (marked (Ran s.pos) w) x) x)

  mutual
    unfolding aborted

    aborted_keeps : (r : Residual) (b : Body) (w : World) → Ok' w → Ok' (aborted r b w)
    aborted_keeps (Block c fin all r rest) b w x =
        let w1 = aborted r b w in
        let w2 = instances_aborted all w1 in
        forget_declared_keeps b (out-KBlock c).decls (finalized fin b w2) (finalized_keeps fin b w2 (instances_keep all w1 (aborted_keeps r b w x)))
    aborted_keeps (Open s r) b w x = aborted_keeps r b w x
    aborted_keeps (Loop s k r) b w x = forget_loop_keeps b s.stmt (aborted r b w) (aborted_keeps r b w x)
    aborted_keeps (Call s r) b w x = forget_body_keeps (Awaited b s.node) (aborted r (Awaited b s.node) w) (aborted_keeps r (Awaited b s.node) w x)
    aborted_keeps (Par s bs) b w x = branches_keep bs b w x
    aborted_keeps (InAsync s served r) b w x = aborted_keeps r b w x
    aborted_keeps Over b w x = x
    aborted_keeps (Run n a) b w x = x
    aborted_keeps (WaitInput k s) b w x = x
    aborted_keeps (WaitTime d s) b w x = x
    aborted_keeps (WaitEvent e s) b w x = x
    aborted_keeps (WaitForever s) b w x = x

    branches_keep : (bs : Branches) (b : Body) (w : World) → Ok' w → Ok' (branches_aborted bs b w)
    branches_keep no_branch b w x = x
    branches_keep (branch r more) b w x = aborted_keeps r b (branches_aborted more b w) (branches_keep more b w x)

    instances_keep : (all : Instances) (w : World) → Ok' w → Ok' (instances_aborted all w)
    instances_keep no_instance w x = x
    instances_keep (instance seat r more) w x = dead_keeps seat.number (aborted r (Spawned seat.number) (instances_aborted more w)) (aborted_keeps r (Spawned seat.number) (instances_aborted more w) (instances_keep more w x))

  closed_keeps : (c : KBlock) (fin : List KNode) (all : Instances) (b : Body) (w : World) → Ok' w → Ok' (closed c fin all b w)
  closed_keeps c fin all b w x = forget_declared_keeps b (out-KBlock c).decls (finalized fin b (instances_aborted all w)) (finalized_keeps fin b (instances_aborted all w) (instances_keep all w x))

  killed_in_keeps : (k : ℕ) (all : Instances) (w : World) → Ok' w → Ok' (killed_in k all w)
  killed_in_keeps k no_instance w x = x
  killed_in_keeps k (instance seat r more) w x = go (seat.number == k) (killed_in_keeps k more w x)
    where
      go : (b : Bool) → Ok' (killed_in k more w) → Ok' (if b then dead k (aborted r (Spawned k) w) else killed_in k more w)
      go true h = dead_keeps k (aborted r (Spawned k) w) (aborted_keeps r (Spawned k) w x)
      go false h = h

  kill_frame_keeps : (k : ℕ) (fr : Frame) (w : World) → Ok' w → Ok' (kill_frame k fr w)
  kill_frame_keeps k (OfBlock b fin all rest) w x = killed_in_keeps k all w x
  kill_frame_keeps k fr w x = x

  pub killed_keeps : (k : ℕ) (f : Focus Act) (w : World) → Ok' w → Ok' (killed k f w)
  killed_keeps k (Here a) w x = x
  killed_keeps k (In fr f) w x = killed_keeps k f (kill_frame k fr w) (kill_frame_keeps k fr w x)

  -- ---- the parts around a leaf

  abbrev Kept : Moved → Type 0
  Kept q = Ok' q.world

  either : (b : Bool) (p q : Moved) → Kept p → Kept q → Kept (if b then p else q)
  either true p q h k = h
  either false p q h k = k

  body_left_keeps : (v : Bool) (c : KBlock) (fin : List KNode) (all : Instances) (f : Focus Act) (b : Body) (node : ℕ) (e : Exit) (w : World) → Ok' w
      → Kept (body_left v c fin all f b node e w)
  body_left_keeps true c fin all f b node e w x = closed_keeps c fin all b (aborted (plug f Over) b w) (aborted_keeps (plug f Over) b w x)
  body_left_keeps false c fin all f b node e w x = x

  open_left_keeps : (v : Bool) (s : KNode) (f : Focus Act) (b : Body) (node : ℕ) (e : Exit) (w : World) → Ok' w → Kept (open_left v s f b node e w)
  open_left_keeps true s f b node e w x = assign_if_keeps b (target s) (value_with e) (aborted (plug f Over) b w) (aborted_keeps (plug f Over) b w x)
  open_left_keeps false s f b node e w x = x

  turn_keeps : (s : KNode) (k : KLoop) (c : KBlock) (j : Counter) (b : Body) (w : World) → Ok' w → Kept (turn_of s k c j b w)
  turn_keeps s (turns.Times slot limit) c (Turns n) b w x = either (n == limit) _ _ x x
  turn_keeps s (turns.Range i next end open_a y z open_b) c (Upward v last) b w x = either (int_lt last v) _ _ (forget_loop_keeps b s.stmt w x) (set_keeps b i (Holds v) w refl x)
  turn_keeps s k c j b w x = x

  next_turn_keeps : (s : KNode) (layer : Layer) (j : Counter) (b : Body) (w : World) → Ok' w → Kept (next_turn s layer j b w)
  next_turn_keeps s (KStmt-F.Loop k c) j b w x = turn_keeps s k c j b w x
  next_turn_keeps s layer j b w x = x

  loop_exit_keeps : (s : KNode) (j : Counter) (e : Exit) (b : Body) (w : World) → Ok' w → Kept (loop_exit s j e b w)
  loop_exit_keeps s j Continue b w x = x
  loop_exit_keeps s j Break b w x = forget_loop_keeps b s.stmt w x
  loop_exit_keeps s j (Escape v) b w x = forget_loop_keeps b s.stmt w x

  loop_left_keeps : (v : Bool) (s : KNode) (j : Counter) (f : Focus Act) (b : Body) (node : ℕ) (e : Exit) (w : World) → Ok' w → Kept (loop_left v s j f b node e w)
  loop_left_keeps true s j f b node e w x = loop_exit_keeps s j e b (aborted (plug f Over) b w) (aborted_keeps (plug f Over) b w x)
  loop_left_keeps false s j f b node e w x = x

  rejoined_keeps : (k : ParKind) (s : KNode) (bs : Branches) (b : Body) (w : World) → Ok' w → Kept (rejoined k s bs b w)
  rejoined_keeps par.Never s bs b w x = x
  rejoined_keeps par.Or s bs b w x = aborted_keeps (Par s bs) b w x
  rejoined_keeps par.And s bs b w x = either (all_over bs) _ _ x x

  through_keeps : (b : Body) (fr : Frame) (f : Focus Act) (o : Outcome) (w : World) → Ok' w → Kept (through b fr f o w)
  through_keeps b fr f (Goes g) w x = x
  through_keeps b fr f (Rests r) w x = x
  through_keeps b fr f (Raises r) w x = x
  through_keeps b fr f (Fails e r) w x = x
  through_keeps b (OfBlock c fin all rest) f Past w x = x
  through_keeps b (OfBlock c fin all rest) f (Registers s) w x = x
  through_keeps b (OfBlock c fin all rest) f AtBlockEnd w x = closed_keeps c fin all b w x
  through_keeps b (OfBlock c fin all rest) f (Leaves node e) w x = body_left_keeps (node == (out-KBlock c).node) c fin all f b node e w x
  through_keeps b (OfOpen s) f (Ends v) w x = assign_if_keeps b (target s) v w x
  through_keeps b (OfOpen s) f (Leaves node e) w x = open_left_keeps (node == s.node) s f b node e w x
  through_keeps b (OfLoop s j) f AtLoopHead w x = next_turn_keeps s (out-KStmt s.stmt) j b w x
  through_keeps b (OfLoop s j) f (Ends v) w x = x
  through_keeps b (OfLoop s j) f (Leaves node e) w x = loop_left_keeps (node == s.node) s j f b node e w x
  through_keeps b (OfCall s) f (Ends v) w x = assign_if_keeps b (target s) v (returned b s w) (forget_body_keeps (Awaited b s.node) w x)
  through_keeps b (OfPar s front back) f (Ends v) w x = rejoined_keeps (kind_of (out-KStmt s.stmt)) s (join front (branch Over back)) b w x
  through_keeps b (OfInstance c fin front seat back r rest) f (Ends v) w x = dead_keeps seat.number w x
  through_keeps b fr f (Leaves node e) w x = x
  through_keeps b fr f o w x = x

  up_keeps : (b : Body) (f : Focus Act) (o : Outcome) (w : World) → Ok' w → Kept (up b f o w)
  unfolding up
  up_keeps b (Here a) o w x = x
  up_keeps b (In fr f) o w x = through_keeps b fr f (up (body_in fr b) f o w).outcome (up (body_in fr b) f o w).world (up_keeps (body_in fr b) f o w x)

  pub answered_keeps : (b : Body) (f : Focus Act) (o : Outcome) (w : World) → Ok' w → Kept (answered b f o w)
  answered_keeps b f o w x = up_keeps b f o w x

  -- ---- a leaf

  abbrev Did : Done → Type 0
  Did d = Ok' d.world

  or_fails_keeps : {A : Type 0} (a : Result A (Fault × Pos)) (w : World) (go : A → Done) → Ok' w → ((v : A) → Did (go v)) → Did (or_fails a w go)
  or_fails_keeps (Ok v) w go x h = h v
  or_fails_keeps (Err e) w go x h = x

  loop_keeps : (s : KNode) (k : KLoop) (b : Body) (w : World) → Ok' w → Did (loop_reached s k b w)
  loop_keeps s turns.Free b w x = x
  loop_keeps s (turns.Times slot n) b w x = x
  loop_keeps s (turns.Range i next end open_a y z open_b) b w x = or_fails_keeps (value_of y b w) w _ x (λ u. or_fails_keeps (value_of z b w) w _ x (λ v. x))

  called_keeps : (s : KNode) (c : Option KCode) (vs : List ℤ) (b : Body) (w : World) → Ok' w → Did (called s c vs b w)
  called_keeps s None vs b w x = x
  called_keeps s (Some k) vs b w x = parameters_keep (Awaited b s.node) k.params vs w x

  spawning_keeps : (s : KNode) (c : Option KCode) (code pool : ℕ) (alias : Option ℕ) (vs : List ℤ) (w : World) → Ok' w → Did (spawning s c code pool alias vs w)
  spawning_keeps s None code pool alias vs w x = x
  spawning_keeps s (Some c) code pool alias vs w x = x

  started_keeps : (K : Kernel) (n : ℕ) (b : Body) (s : KNode) (layer : Layer) (w : World) → Ok' w → Did (started K n b s layer w)
  started_keeps K n b s (KStmt-F.Assign l e) w x = or_fails_keeps (value_of e b w) w _ x (λ v. assign_keeps b l v w x)
  started_keeps K n b s (KStmt-F.Out k e) w x = or_fails_keeps (value_if e b w) w _ x (λ v. x)
  started_keeps K n b s (KStmt-F.Emit k e) w x = or_fails_keeps (value_if e b w) w _ x (λ v. x)
  started_keeps K n b s (KStmt-F.AwaitTime e u t) w x = or_fails_keeps (value_of e b w) w _ x (λ v. x)
  started_keeps K n b s (KStmt-F.AwaitCode c es f t) w x = or_fails_keeps (values_of es b w) w _ x (λ vs. called_keeps s (code_at c K.codes) vs b w x)
  started_keeps K n b s (KStmt-F.Spawn c es p a) w x = or_fails_keeps (values_of es b w) w _ x (λ vs. spawning_keeps s (code_at c K.codes) c p a vs w x)
  started_keeps K n b s (KStmt-F.Unset c) w x = set_keeps b c NotSet w refl x
  started_keeps K n b s (KStmt-F.Escape node e) w x = or_fails_keeps (value_if e b w) w _ x (λ v. x)
  started_keeps K n b s (KStmt-F.If arms last) w x = or_fails_keeps (chosen_part arms last b w) w _ x (λ c. x)
  started_keeps K n b s (KStmt-F.Loop k c) w x = loop_keeps s k b w x
  started_keeps K n b s layer w x = x

  pub acted_keeps : (K : Kernel) (n : ℕ) (b : Body) (a : Act) (w : World) → Ok' w → Did (acted K n b a w)
  acted_keeps K n b (Begin c) w x = x
  acted_keeps K n b (Start s) w x = started_keeps K n b s (out-KStmt s.stmt) w x
  acted_keeps K n b (Finish s v) w x = assign_if_keeps b (target s) v w x
  acted_keeps K n b AtEnd w x = x
  acted_keeps K n b AtHead w x = x
  acted_keeps K n b Again w x = x
