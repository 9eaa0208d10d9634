-- What a part has hold of, of one slot of one open body: each opening of the body, and each block, loop and parameter that has the slot. Where the body is
-- open once and something of it has the slot, that is all.
use Rattle.std.proofs.Common.{◌≡◌, refl, ap, ◌≤◌, ℕ, ◌+◌, Bool, true, false, if◌then◌else◌, ◌==◌, List, Option, Some, None, arith}
use Rattle.ceu_tree.specs.declared.kernel.KCode.{KCode}
use Rattle.ceu_tree.specs.declared.kernel.KDecl.{KDecl}
use Rattle.ceu_tree.specs.declared.kernel.KBlock.{out-KBlock}
use Rattle.ceu_tree.specs.declared.kernel.KStmt.{out-KStmt}
use Rattle.ceu_tree.specs.Residual.{Body, Awaited, Spawned, same_body, Act, Residual, Over, InAsync, Block, Open, Loop, Call, Par, Branches, no_branch, branch, Instances, no_instance, instance}
use Rattle.ceu_tree.specs.Focus.{Frame, OfBlock, OfInstance, OfOpen, OfLoop, OfCall, OfPar, Focus, Here, In, join, join_instances, fill, plug, body_in, body_of}
use Rattle.ceu_tree.specs.Leaf.{code_at}
use Rattle.ceu_tree.specs.Legal.{called_code}
use Rattle.ceu_tree.specs.Numbering.{decl_slots}
use Rattle.ceu_tree.specs.Step.{unseated, unseat_frame, unseat}
use Rattle.laws_meaning_instances.proofs.Living.{often}
use Rattle.laws_meaning_counters.proofs.Grips.{point, own}

module _ (codes : List KCode) (b : Body) (x : ℕ) where
  abbrev pub slots_grip : Body → List KDecl → ℕ
  slots_grip here ds = if same_body here b then often x (decl_slots ds) else 0

  abbrev pub given_grip : Body → Option KCode → ℕ
  given_grip here None = 0
  given_grip here (Some c) = slots_grip here c.params

  unfoldable mutual
    pub grip : (here : Body) → Residual → ℕ
    grip here (Block c fin all r rest) = slots_grip here (out-KBlock c).decls + grip_all all + grip here r
    grip here (Open s r) = grip here r
    grip here (Loop s c r) = own b x here (out-KStmt s.stmt) + grip here r
    grip here (Call s r) = point b x (Awaited here s.node) + given_grip (Awaited here s.node) (called_code codes (out-KStmt s.stmt)) + grip (Awaited here s.node) r
    grip here (Par s bs) = grip_each here bs
    grip here (InAsync s served r) = grip here r
    grip here r = 0

    pub grip_each : (here : Body) → Branches → ℕ
    grip_each here no_branch = 0
    grip_each here (branch r more) = grip here r + grip_each here more

    pub grip_all : Instances → ℕ
    grip_all no_instance = 0
    grip_all (instance seat r more) = point b x (Spawned seat.number) + given_grip (Spawned seat.number) (code_at seat.code codes) + grip (Spawned seat.number) r + grip_all more

  abbrev pub frame_grip : Body → Frame → ℕ
  frame_grip here (OfBlock c fin all rest) = slots_grip here (out-KBlock c).decls + grip_all all
  frame_grip here (OfInstance c fin front seat back r rest) =
      slots_grip here (out-KBlock c).decls + (point b x (Spawned seat.number) + given_grip (Spawned seat.number) (code_at seat.code codes)) + (grip_all front + grip_all back) + grip here r
  frame_grip here (OfOpen s) = 0
  frame_grip here (OfLoop s c) = own b x here (out-KStmt s.stmt)
  frame_grip here (OfCall s) = point b x (Awaited here s.node) + given_grip (Awaited here s.node) (called_code codes (out-KStmt s.stmt))
  frame_grip here (OfPar s front back) = grip_each here front + grip_each here back

  unfoldable pub focus_grip : {A : Type 0} → Body → Focus A → ℕ
  focus_grip here (Here a) = 0
  focus_grip here (In fr f) = frame_grip here fr + focus_grip (body_in fr here) f

  join_grip : (here : Body) (front back : Branches) → grip_each here (join front back) ≡ grip_each here front + grip_each here back
  unfolding grip
  join_grip here no_branch back = omega arith
  join_grip here (branch r more) back = omega (arith, join_grip here more back)

  join_all_grip : (front back : Instances) → grip_all (join_instances front back) ≡ grip_all front + grip_all back
  unfolding grip
  join_all_grip no_instance back = omega arith
  join_all_grip (instance seat r more) back = omega (arith, join_all_grip more back)

  fill_grip : (here : Body) (fr : Frame) (r : Residual) → grip here (fill fr r) ≡ frame_grip here fr + grip (body_in fr here) r
  unfolding grip
  fill_grip here (OfBlock c fin all rest) r = omega arith
  fill_grip here (OfInstance c fin front seat back q rest) r = omega (arith, join_all_grip front (instance seat r back))
  fill_grip here (OfOpen s) r = omega arith
  fill_grip here (OfLoop s c) r = omega arith
  fill_grip here (OfCall s) r = omega arith
  fill_grip here (OfPar s front back) r = omega (arith, join_grip here front (branch r back))

  pub plug_grip : {A : Type 0} (here : Body) (f : Focus A) (r : Residual) → grip here (plug f r) ≡ focus_grip here f + grip (body_of f here) r
  unfolding focus_grip
  plug_grip here (Here a) r = omega arith
  plug_grip here (In fr f) r = omega (arith, fill_grip here fr (plug f r), plug_grip (body_in fr here) f r)

  pub over_grip : {A : Type 0} (here : Body) (f : Focus A) → grip here (plug f Over) ≡ focus_grip here f
  unfolding grip
  over_grip here f = omega (arith, plug_grip here f Over)

  pub over_branches : (here : Body) (front back : Branches) → grip_each here (join front (branch Over back)) ≡ grip_each here front + grip_each here back
  unfolding grip
  over_branches here front back = omega (arith, join_grip here front (branch Over back))

  -- a body that is open in a frame is held by what is around it, or by the frame
  pub body_point : (here : Body) (fr : Frame) → point b x (body_in fr here) ≤ point b x here + frame_grip here fr
  body_point here (OfBlock c fin all rest) = omega arith
  body_point here (OfInstance c fin front seat back r rest) = omega arith
  body_point here (OfOpen s) = omega arith
  body_point here (OfLoop s c) = omega arith
  body_point here (OfCall s) = omega arith
  body_point here (OfPar s front back) = omega arith

  -- ---- an instance that is taken out

  unseated_less : (k : ℕ) (all : Instances) → grip_all (unseated k all) ≤ grip_all all
  unfolding grip
  unseated_less k no_instance = omega arith
  unseated_less k (instance seat r more) = go (seat.number == k) (unseated_less k more)
    where
      go : (t : Bool) → grip_all (unseated k more) ≤ grip_all more
          → grip_all (if t then more else instance seat r (unseated k more)) ≤ point b x (Spawned seat.number) + given_grip (Spawned seat.number) (code_at seat.code codes) + grip (Spawned seat.number) r + grip_all more
      go true h = omega arith
      go false h = omega (arith, h)

  pub unseat_frame_less : (k : ℕ) (here : Body) (fr : Frame) → frame_grip here (unseat_frame k fr) ≤ frame_grip here fr
  unseat_frame_less k here (OfBlock c fin all rest) = let h = unseated_less k all in omega (arith, h)
  unseat_frame_less k here (OfInstance c fin front seat back r rest) = omega arith
  unseat_frame_less k here (OfOpen s) = omega arith
  unseat_frame_less k here (OfLoop s c) = omega arith
  unseat_frame_less k here (OfCall s) = omega arith
  unseat_frame_less k here (OfPar s front back) = omega arith

  pub unseat_body : (k : ℕ) (here : Body) (fr : Frame) → body_in (unseat_frame k fr) here ≡ body_in fr here
  unseat_body k here (OfBlock c fin all rest) = refl
  unseat_body k here (OfInstance c fin front seat back r rest) = refl
  unseat_body k here (OfOpen s) = refl
  unseat_body k here (OfLoop s c) = refl
  unseat_body k here (OfCall s) = refl
  unseat_body k here (OfPar s front back) = refl

  pub unseat_less : (k : ℕ) (here : Body) (f : Focus Act) → focus_grip here (unseat k f) ≤ focus_grip here f
  unfolding focus_grip
  unseat_less k here (Here a) = omega arith
  unseat_less k here (In fr f) =
      let e = ap (λ d. focus_grip d (unseat k f)) (unseat_body k here fr) in
      omega (arith, unseat_frame_less k here fr, e, unseat_less k (body_in fr here) f)
