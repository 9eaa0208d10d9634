-- Open loops of a focus, and of the tree that it is of.
use Rattle.std.proofs.Common.{◌≡◌, refl, sym, subst, ℕ, ℤ, pos, ◌+ℤ◌, int_le, Bool, true, false, if◌then◌else◌, Option, Some, None, arith}
use Rattle.std.proofs.lemmas.Int.{ints}
use Rattle.ceu_base.specs.Values.{of_test}
use Rattle.ceu_tree.specs.declared.kernel.KLoop.{KLoop}
use Rattle.ceu_tree.specs.declared.kernel.KLoop.TheVariants as turns
use Rattle.ceu_tree.specs.declared.kernel.KStmt.{out-KStmt}
use Rattle.ceu_tree.specs.declared.kernel.KStmt.TheOpen.{KStmt-F}
use Rattle.ceu_tree.specs.Paths.{literal}
use Rattle.ceu_tree.specs.Residual.{Body, Awaited, Spawned, Counter, Turns, Upward, Seat, Residual, Over, Run, WaitInput, WaitTime, WaitEvent, WaitForever, InAsync, Block, Open, Loop, Call, Par, Branches, no_branch, branch, Instances, no_instance, instance}
use Rattle.ceu_tree.specs.Focus.{Frame, OfBlock, OfInstance, OfOpen, OfLoop, OfCall, OfPar, Focus, Here, In, join, join_instances, fill, plug, graft, leaf, body_in, body_of, has_body}
use Rattle.ceu_tree.specs.World.{Cell}
use Rattle.ceu_tree.specs.Leaf.{Layer}
use Rattle.ceu_tree.specs.Wake.{each_leaf, each_in_branches, each_in_instances, each_in_body, woken}
use Rattle.laws_meaning_counters.specs.Counters.{from_first, turn_stands, head_stands, loop_stands, loops_stand, each_loops_stand, all_loops_stand, frame_loops_stand, at_loop, focus_loops_stand}

-- ---- after a turn the loop's head is reached again

next_from : (o : Option ℤ) (open_a : Bool) (v : ℤ) → from_first o open_a v → from_first o open_a (v +ℤ pos 1)
next_from None open_a v h = tt
next_from (Some a) open_a v h = go (int_le (a +ℤ of_test open_a) (v +ℤ pos 1)) refl
  where
    go : (t : Bool) → int_le (a +ℤ of_test open_a) (v +ℤ pos 1) ≡ t → int_le (a +ℤ of_test open_a) (v +ℤ pos 1) ≡ true
    go true e = e
    go false e = absurd (omega (arith, ints, e, h))

pub turn_over : (cell : Option Cell) (k : KLoop) (c : Counter) → turn_stands cell k c → head_stands k c
turn_over cell (turns.Times slot n) (Turns k) h = h.1
turn_over cell (turns.Range i next end open_a y z open_b) (Upward v last) h =
    (subst (from_first (literal y.node) open_a) (sym h.next_is) (next_from (literal y.node) open_a h.value h.from), h.to)
turn_over cell k c h = tt

module _ (b : Body) (x : ℕ) (cell : Option Cell) where
  pub loop_later : (first : Bool) (here : Body) (layer : Layer) (c : Counter) → loop_stands b x cell false here layer c → loop_stands b x cell first here layer c
  loop_later false here layer c h = h
  loop_later true here (KStmt-F.Loop k d) c h = λ e. turn_over cell k c (h e)
  loop_later true here layer c h = tt

  pub frame_later : (first : Bool) (here : Body) (fr : Frame) → frame_loops_stand b x cell false here fr → frame_loops_stand b x cell first here fr
  frame_later first here (OfBlock c fin all rest) h = h
  frame_later first here (OfInstance c fin front seat back r rest) h = h
  frame_later first here (OfOpen s) h = h
  frame_later first here (OfLoop s c) h = loop_later first here (out-KStmt s.stmt) c h
  frame_later first here (OfCall s) h = h
  frame_later first here (OfPar s front back) h = h

  pub joined : (here : Body) (front back : Branches) → each_loops_stand b x cell here front → each_loops_stand b x cell here back → each_loops_stand b x cell here (join front back)
  unfolding each_loops_stand
  joined here no_branch back h k = k
  joined here (branch r more) back h k = (h.0, joined here more back h.1 k)

  pub joined_all : (front back : Instances) → all_loops_stand b x cell front → all_loops_stand b x cell back → all_loops_stand b x cell (join_instances front back)
  unfolding all_loops_stand
  joined_all no_instance back h k = k
  joined_all (instance seat r more) back h k = (h.0, joined_all more back h.1 k)

  pub filled : (here : Body) (fr : Frame) (r : Residual) → frame_loops_stand b x cell false here fr → loops_stand b x cell (body_in fr here) r → loops_stand b x cell here (fill fr r)
  unfolding loops_stand
  filled here (OfBlock c fin all rest) r h k = (h, k)
  filled here (OfInstance c fin front seat back q rest) r h k = (joined_all front (instance seat r back) h.0 (k, h.1), h.2)
  filled here (OfOpen s) r h k = k
  filled here (OfLoop s c) r h k = (h, k)
  filled here (OfCall s) r h k = k
  filled here (OfPar s front back) r h k = joined here front (branch r back) h.0 (k, h.1)

  not_at : {A : Type 0} (first : A → Bool) (f : Focus A) → first (leaf f) ≡ false → at_loop first f ≡ false
  not_at first (Here a) e = e
  not_at first (In fr f) e = refl

  pub plugged : {A : Type 0} (first : A → Bool) (here : Body) (f : Focus A) (r : Residual) → first (leaf f) ≡ false → focus_loops_stand b x cell first here f → loops_stand b x cell (body_of f here) r → loops_stand b x cell here (plug f r)
  unfolding focus_loops_stand
  plugged first here (Here a) r e h k = k
  plugged first here (In fr f) r e h k = filled here fr (plug f r) (subst (λ t. frame_loops_stand b x cell t here fr) (not_at first f e) h.0) (plugged first (body_in fr here) f r e h.1 k)

  pub grafted : {A B : Type 0} (first : A → Bool) (other : B → Bool) (here : Body) (f : Focus A) (y : Focus B) → first (leaf f) ≡ false → focus_loops_stand b x cell first here f → focus_loops_stand b x cell other (body_of f here) y → focus_loops_stand b x cell other here (graft f y)
  unfolding focus_loops_stand
  grafted first other here (Here a) y e h k = k
  grafted first other here (In fr f) y e h k =
      (frame_later (at_loop other (graft f y)) here fr (subst (λ t. frame_loops_stand b x cell t here fr) (not_at first f e) h.0), grafted first other (body_in fr here) f y e h.1 k)

  -- ---- out of a tree

  split_joined : (here : Body) (front : Branches) (r : Residual) (back : Branches) → each_loops_stand b x cell here (join front (branch r back)) → each_loops_stand b x cell here front × loops_stand b x cell here r × each_loops_stand b x cell here back
  unfolding each_loops_stand
  split_joined here no_branch r back h = (tt, h.0, h.1)
  split_joined here (branch q more) r back h = let a = split_joined here more r back h.1 in ((h.0, a.0), a.1, a.2)

  split_all : (front : Instances) (seat : Seat) (r : Residual) (back : Instances) → all_loops_stand b x cell (join_instances front (instance seat r back)) → all_loops_stand b x cell front × loops_stand b x cell (Spawned seat.number) r × all_loops_stand b x cell back
  unfolding all_loops_stand
  split_all no_instance seat r back h = (tt, h.0, h.1)
  split_all (instance other q more) seat r back h = let a = split_all more seat r back h.1 in ((h.0, a.0), a.1, a.2)

  unfilled : (here : Body) (fr : Frame) (r : Residual) → loops_stand b x cell here (fill fr r) → frame_loops_stand b x cell false here fr × loops_stand b x cell (body_in fr here) r
  unfolding loops_stand
  unfilled here (OfBlock c fin all rest) r h = (h.0, h.1)
  unfilled here (OfInstance c fin front seat back q rest) r h = let a = split_all front seat r back h.0 in ((a.0, a.2, h.1), a.1)
  unfilled here (OfOpen s) r h = (tt, h)
  unfilled here (OfLoop s c) r h = (h.0, h.1)
  unfilled here (OfCall s) r h = (tt, h)
  unfilled here (OfPar s front back) r h = let a = split_joined here front r back h in ((a.0, a.2), a.1)

  pub unplugged : {A : Type 0} (first : A → Bool) (here : Body) (f : Focus A) (r : Residual) → loops_stand b x cell here (plug f r) → focus_loops_stand b x cell first here f × loops_stand b x cell (body_of f here) r
  unfolding focus_loops_stand
  unplugged first here (Here a) r h = (tt, h)
  unplugged first here (In fr f) r h =
      let a = unfilled here fr (plug f r) h in
      let c = unplugged first (body_in fr here) f r a.1 in
      ((frame_later (at_loop first f) here fr a.0, c.0), c.1)

  -- ---- leaves that become others

  module _ (g : Residual → Residual) (keeps : (here : Body) (r : Residual) → loops_stand b x cell here r → loops_stand b x cell here (g r)) where
    mutual
      unfolding loops_stand each_leaf

      pub leaves_kept : (here : Body) (r : Residual) → loops_stand b x cell here r → loops_stand b x cell here (each_leaf g r)
      leaves_kept here (Block c fin all r rest) h = (all_kept all h.0, leaves_kept here r h.1)
      leaves_kept here (Open s r) h = leaves_kept here r h
      leaves_kept here (Loop s c r) h = (h.0, leaves_kept here r h.1)
      leaves_kept here (Call s r) h = leaves_kept (Awaited here s.node) r h
      leaves_kept here (Par s bs) h = each_kept here bs h
      leaves_kept here Over h = h
      leaves_kept here (Run n a) h = keeps here (Run n a) h
      leaves_kept here (WaitInput k s) h = keeps here (WaitInput k s) h
      leaves_kept here (WaitTime d s) h = keeps here (WaitTime d s) h
      leaves_kept here (WaitEvent e s) h = keeps here (WaitEvent e s) h
      leaves_kept here (WaitForever s) h = keeps here (WaitForever s) h
      leaves_kept here (InAsync s served r) h = keeps here (InAsync s served r) h

      each_kept : (here : Body) (bs : Branches) → each_loops_stand b x cell here bs → each_loops_stand b x cell here (each_in_branches g bs)
      each_kept here no_branch h = tt
      each_kept here (branch r more) h = (leaves_kept here r h.0, each_kept here more h.1)

      all_kept : (all : Instances) → all_loops_stand b x cell all → all_loops_stand b x cell (each_in_instances g all)
      all_kept no_instance h = tt
      all_kept (instance seat r more) h = (leaves_kept (Spawned seat.number) r h.0, all_kept more h.1)

    body_kept : {A : Type 0} (first : A → Bool) (here : Body) (f : Focus A) (r : Residual) → first (leaf f) ≡ false → focus_loops_stand b x cell first here f → loops_stand b x cell (body_of f here) r → loops_stand b x cell here (each_in_body g f r)
    unfolding focus_loops_stand
    body_kept first here (Here a) r e h k = leaves_kept here r k
    body_kept first here (In fr f) r e h k = go (has_body (In fr f)) (body_kept first (body_in fr here) f r e h.1 k)
      where
        own : frame_loops_stand b x cell false here fr
        own = subst (λ t. frame_loops_stand b x cell t here fr) (not_at first f e) h.0

        go : (t : Bool) → loops_stand b x cell (body_in fr here) (each_in_body g f r) → loops_stand b x cell here (if t then fill fr (each_in_body g f r) else each_leaf g (plug (In fr f) r))
        go true a = filled here fr (each_in_body g f r) own a
        go false a = leaves_kept here (plug (In fr f) r) (filled here fr (plug f r) own (plugged first (body_in fr here) f r e h.1 k))

    pub woken_kept : {A : Type 0} (code : Option ℕ) (first : A → Bool) (here : Body) (f : Focus A) (r : Residual) → first (leaf f) ≡ false → focus_loops_stand b x cell first here f → loops_stand b x cell (body_of f here) r → loops_stand b x cell here (woken code g f r)
    woken_kept None first here f r e h k = leaves_kept here (plug f r) (plugged first here f r e h k)
    woken_kept (Some c) first here f r e h k = body_kept first here f r e h k
