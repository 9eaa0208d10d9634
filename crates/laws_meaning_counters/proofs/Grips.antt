-- What a part has hold of, of one slot of one open body: each opening of the body, and each open loop of it that counts in the slot. Where the body is open
-- once and has such a loop, that is all: nothing else has hold of the slot.
use Rattle.std.proofs.Common.{◌≡◌, refl, ap, ◌≤◌, ℕ, ◌+◌, Bool, true, false, if◌then◌else◌, ◌==◌, ◌&&◌, Option, arith}
use Rattle.std.proofs.lemmas.Bool.{and_parts}
use Rattle.ceu_tree.specs.declared.kernel.KLoop.{KLoop}
use Rattle.ceu_tree.specs.declared.kernel.KBlock.{KBlock}
use Rattle.ceu_tree.specs.declared.kernel.KStmt.{out-KStmt}
use Rattle.ceu_tree.specs.declared.kernel.KStmt.TheOpen.{KStmt-F}
use Rattle.ceu_tree.specs.Residual.{Body, Awaited, Spawned, same_body, Act, Counter, Residual, Over, Run, WaitInput, WaitTime, WaitEvent, WaitForever, InAsync, Block, Open, Loop, Call, Par, Branches, no_branch, branch, Instances, no_instance, instance}
use Rattle.ceu_tree.specs.Focus.{Frame, OfBlock, OfInstance, OfOpen, OfLoop, OfCall, OfPar, Focus, Here, In, join, join_instances, body_in, body_of}
use Rattle.ceu_tree.specs.World.{Cell}
use Rattle.ceu_tree.specs.Leaf.{Layer}
use Rattle.ceu_tree.specs.Step.{unseated, unseat_frame, unseat}
use Rattle.laws_meaning_counters.specs.Counters.{counts_in, loop_stands, loops_stand, each_loops_stand, all_loops_stand, frame_loops_stand, at_loop, focus_loops_stand}
use Rattle.laws_meaning_counters.proofs.Cells.{is_own}

module _ (b : Body) (x : ℕ) where
  abbrev pub point : Body → ℕ
  point here = if same_body here b then 2 else 0

  abbrev pub own : Body → Layer → ℕ
  own here layer = if is_own b x here layer then 1 else 0

  unfoldable mutual
    pub grip : (here : Body) → Residual → ℕ
    grip here (Block c fin all r rest) = grip_all all + grip here r
    grip here (Open s r) = grip here r
    grip here (Loop s c r) = own here (out-KStmt s.stmt) + grip here r
    grip here (Call s r) = point (Awaited here s.node) + grip (Awaited here s.node) r
    grip here (Par s bs) = grip_each here bs
    grip here (InAsync s served r) = grip here r
    grip here r = 0

    pub grip_each : (here : Body) → Branches → ℕ
    grip_each here no_branch = 0
    grip_each here (branch r more) = grip here r + grip_each here more

    pub grip_all : Instances → ℕ
    grip_all no_instance = 0
    grip_all (instance seat r more) = point (Spawned seat.number) + grip (Spawned seat.number) r + grip_all more

  abbrev pub frame_grip : Body → Frame → ℕ
  frame_grip here (OfBlock c fin all rest) = grip_all all
  frame_grip here (OfInstance c fin front seat back r rest) = point (Spawned seat.number) + (grip_all front + grip_all back) + grip here r
  frame_grip here (OfOpen s) = 0
  frame_grip here (OfLoop s c) = own here (out-KStmt s.stmt)
  frame_grip here (OfCall s) = point (Awaited here s.node)
  frame_grip here (OfPar s front back) = grip_each here front + grip_each here back

  unfoldable pub focus_grip : {A : Type 0} → Body → Focus A → ℕ
  focus_grip here (Here a) = 0
  focus_grip here (In fr f) = frame_grip here fr + focus_grip (body_in fr here) f

  pub join_grip : (here : Body) (front back : Branches) → grip_each here (join front back) ≡ grip_each here front + grip_each here back
  unfolding grip
  join_grip here no_branch back = omega arith
  join_grip here (branch r more) back = omega (arith, join_grip here more back)

  pub join_all_grip : (front back : Instances) → grip_all (join_instances front back) ≡ grip_all front + grip_all back
  unfolding grip
  join_all_grip no_instance back = omega arith
  join_all_grip (instance seat r more) back = omega (arith, join_all_grip more back)

  -- a body that is open in a frame is held by what is around it, or by the frame
  pub body_point : (here : Body) (fr : Frame) → point (body_in fr here) ≤ point here + frame_grip here fr
  body_point here (OfBlock c fin all rest) = omega arith
  body_point here (OfInstance c fin front seat back r rest) = omega arith
  body_point here (OfOpen s) = omega arith
  body_point here (OfLoop s c) = omega arith
  body_point here (OfCall s) = omega arith
  body_point here (OfPar s front back) = omega arith

  pub leaf_point : {A : Type 0} (here : Body) (f : Focus A) → point (body_of f here) ≤ point here + focus_grip here f
  unfolding focus_grip
  leaf_point here (Here a) = omega arith
  leaf_point here (In fr f) = omega (arith, body_point here fr, leaf_point (body_in fr here) f)

  -- ---- where that is less than all, no loop of it is open

  own_true : (here : Body) (k : KLoop) (c : KBlock) → (same_body here b && counts_in x k) ≡ true → 3 ≤ point here + own here (KStmt-F.Loop k c)
  own_true here k c h =
      let a = and_parts (same_body here b) (counts_in x k) h in
      let p : point here ≡ 2 = ap (λ t. if t then 2 else 0) a.0 in
      let o : own here (KStmt-F.Loop k c) ≡ 1 = ap (λ t. if t then 1 else 0) h in
      omega (arith, p, o)

  pub loop_settled : (cell : Option Cell) (first : Bool) (here : Body) (layer : Layer) (c : Counter) → point here + own here layer ≤ 2 → loop_stands b x cell first here layer c
  loop_settled cell true here (KStmt-F.Loop k d) c h = λ e. absurd (omega (arith, own_true here k d e, h))
  loop_settled cell false here (KStmt-F.Loop k d) c h = λ e. absurd (omega (arith, own_true here k d e, h))
  loop_settled cell first here layer c h = tt

  module _ (cell : Option Cell) where
    mutual
      unfolding grip loops_stand

      pub settled : (here : Body) (r : Residual) → point here + grip here r ≤ 2 → loops_stand b x cell here r
      settled here (Block c fin all r rest) h = (all_settled all (omega (arith, h)), settled here r (omega (arith, h)))
      settled here (Open s r) h = settled here r h
      settled here (Loop s c r) h = (loop_settled cell false here (out-KStmt s.stmt) c (omega (arith, h)), settled here r (omega (arith, h)))
      settled here (Call s r) h = settled (Awaited here s.node) r (omega (arith, h))
      settled here (Par s bs) h = each_settled here bs h
      settled here Over h = tt
      settled here (Run n a) h = tt
      settled here (WaitInput k s) h = tt
      settled here (WaitTime d s) h = tt
      settled here (WaitEvent e s) h = tt
      settled here (WaitForever s) h = tt
      settled here (InAsync s served r) h = settled here r h

      pub each_settled : (here : Body) (bs : Branches) → point here + grip_each here bs ≤ 2 → each_loops_stand b x cell here bs
      each_settled here no_branch h = tt
      each_settled here (branch r more) h = (settled here r (omega (arith, h)), each_settled here more (omega (arith, h)))

      pub all_settled : (all : Instances) → grip_all all ≤ 2 → all_loops_stand b x cell all
      all_settled no_instance h = tt
      all_settled (instance seat r more) h = (settled (Spawned seat.number) r (omega (arith, h)), all_settled more (omega (arith, h)))

    pub frame_settled : (first : Bool) (here : Body) (fr : Frame) → point here + frame_grip here fr ≤ 2 → frame_loops_stand b x cell first here fr
    frame_settled first here (OfBlock c fin all rest) h = all_settled all (omega (arith, h))
    frame_settled first here (OfInstance c fin front seat back r rest) h = (all_settled front (omega (arith, h)), all_settled back (omega (arith, h)), settled here r (omega (arith, h)))
    frame_settled first here (OfOpen s) h = tt
    frame_settled first here (OfLoop s c) h = loop_settled cell first here (out-KStmt s.stmt) c h
    frame_settled first here (OfCall s) h = tt
    frame_settled first here (OfPar s front back) h = (each_settled here front (omega (arith, h)), each_settled here back (omega (arith, h)))

    pub focus_settled : {A : Type 0} (first : A → Bool) (here : Body) (f : Focus A) → point here + focus_grip here f ≤ 2 → focus_loops_stand b x cell first here f
    unfolding focus_grip focus_loops_stand
    focus_settled first here (Here a) h = tt
    focus_settled first here (In fr f) h = (frame_settled (at_loop first f) here fr (omega (arith, h)), focus_settled first (body_in fr here) f (omega (arith, h, body_point here fr)))

  -- ---- an instance that is taken out

  unseated_less : (k : ℕ) (all : Instances) → grip_all (unseated k all) ≤ grip_all all
  unfolding grip
  unseated_less k no_instance = omega arith
  unseated_less k (instance seat r more) = go (seat.number == k) (unseated_less k more)
    where
      go : (t : Bool) → grip_all (unseated k more) ≤ grip_all more → grip_all (if t then more else instance seat r (unseated k more)) ≤ point (Spawned seat.number) + grip (Spawned seat.number) r + grip_all more
      go true h = omega arith
      go false h = omega (arith, h)

  pub unseat_frame_less : (k : ℕ) (here : Body) (fr : Frame) → frame_grip here (unseat_frame k fr) ≤ frame_grip here fr
  unseat_frame_less k here (OfBlock c fin all rest) = unseated_less k all
  unseat_frame_less k here (OfInstance c fin front seat back r rest) = omega arith
  unseat_frame_less k here (OfOpen s) = omega arith
  unseat_frame_less k here (OfLoop s c) = omega arith
  unseat_frame_less k here (OfCall s) = omega arith
  unseat_frame_less k here (OfPar s front back) = omega arith

  pub unseat_body : (k : ℕ) (here : Body) (fr : Frame) → body_in (unseat_frame k fr) here ≡ body_in fr here
  unseat_body k here (OfBlock c fin all rest) = refl
  unseat_body k here (OfInstance c fin front seat back r rest) = refl
  unseat_body k here (OfOpen s) = refl
  unseat_body k here (OfLoop s c) = refl
  unseat_body k here (OfCall s) = refl
  unseat_body k here (OfPar s front back) = refl

  pub unseat_less : (k : ℕ) (here : Body) (f : Focus Act) → focus_grip here (unseat k f) ≤ focus_grip here f
  unfolding focus_grip
  unseat_less k here (Here a) = omega arith
  unseat_less k here (In fr f) =
      let e = ap (λ d. focus_grip d (unseat k f)) (unseat_body k here fr) in
      omega (arith, unseat_frame_less k here fr, e, unseat_less k (body_in fr here) f)
