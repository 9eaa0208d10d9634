-- The instances of a tree by their seats: what holds of each of them goes on to hold, and a new one takes a place in one block alone.
use Rattle.std.proofs.Common.{◌≡◌, refl, sym, subst, ℕ, nat_lt, Bool, true, false, if◌then◌else◌, ◌==◌, Option, Some, None}
use Rattle.ceu_tree.specs.declared.kernel.KBlock.{out-KBlock}
use Rattle.ceu_tree.specs.Residual.{Body, Awaited, Spawned, Act, Seat, Residual, Over, Run, WaitInput, WaitTime, WaitEvent, WaitForever, InAsync, Block, Open, Loop, Call, Par, Branches, no_branch, branch, Instances, no_instance, instance}
use Rattle.ceu_tree.specs.Focus.{Frame, OfBlock, OfInstance, OfOpen, OfLoop, OfCall, OfPar, Focus, Here, In, join, join_instances, fill, plug, graft, body_in, body_of, has_body}
use Rattle.ceu_tree.specs.Wake.{each_leaf, each_in_branches, each_in_instances, each_in_body, woken}
use Rattle.ceu_tree.specs.Step.{size_in, with_instance, seated_if, seat_frame, seated, unseated, unseat_frame, unseat}
use Rattle.ceu_tree.specs.Legal.{Seated}

abbrev pub at_seat : Seat → Body → Seated
at_seat seat body = record { seat = seat; body = body }

module _ (P : Seated → Type 0) where
  unfoldable mutual
    pub each_seat : Residual → Body → Type 0
    each_seat (Block b fin all r rest) body = all_seats all body × each_seat r body
    each_seat (Open s r) body = each_seat r body
    each_seat (Loop s c r) body = each_seat r body
    each_seat (Call s r) body = each_seat r (Awaited body s.node)
    each_seat (Par s bs) body = branches_seats bs body
    each_seat r body = Unit {0}

    pub branches_seats : Branches → Body → Type 0
    branches_seats no_branch body = Unit {0}
    branches_seats (branch r more) body = each_seat r body × branches_seats more body

    pub all_seats : Instances → Body → Type 0
    all_seats no_instance body = Unit {0}
    all_seats (instance seat r more) body = P (at_seat seat body) × each_seat r (Spawned seat.number) × all_seats more body

  abbrev pub frame_seats : Frame → Body → Type 0
  frame_seats (OfBlock b fin all rest) body = all_seats all body
  frame_seats (OfInstance b fin front seat back r rest) body = all_seats front body × P (at_seat seat body) × all_seats back body × each_seat r body
  frame_seats (OfPar s front back) body = branches_seats front body × branches_seats back body
  frame_seats fr body = Unit {0}

  unfoldable pub focus_seats : {A : Type 0} → Focus A → Body → Type 0
  focus_seats (Here a) body = Unit {0}
  focus_seats (In fr f) body = frame_seats fr body × focus_seats f (body_in fr body)

  -- ---- the tree of a focus

  pub join_seats : (front back : Branches) (body : Body) → branches_seats front body → branches_seats back body → branches_seats (join front back) body
  unfolding each_seat
  join_seats no_branch back body h k = k
  join_seats (branch r more) back body h k = (h.0, join_seats more back body h.1 k)

  split_seats : (front : Branches) (r : Residual) (back : Branches) (body : Body) → branches_seats (join front (branch r back)) body
      → branches_seats front body × each_seat r body × branches_seats back body
  unfolding each_seat
  split_seats no_branch r back body h = (tt, h.0, h.1)
  split_seats (branch q more) r back body h = let a = split_seats more r back body h.1 in ((h.0, a.0), a.1, a.2)

  pub join_all_seats : (front back : Instances) (body : Body) → all_seats front body → all_seats back body → all_seats (join_instances front back) body
  unfolding each_seat
  join_all_seats no_instance back body h k = k
  join_all_seats (instance seat r more) back body h k = (h.0, h.1, join_all_seats more back body h.2 k)

  split_all_seats : (front : Instances) (seat : Seat) (r : Residual) (back : Instances) (body : Body)
      → all_seats (join_instances front (instance seat r back)) body
      → all_seats front body × P (at_seat seat body) × each_seat r (Spawned seat.number) × all_seats back body
  unfolding each_seat
  split_all_seats no_instance seat r back body h = (tt, h.0, h.1, h.2)
  split_all_seats (instance other q more) seat r back body h = let a = split_all_seats more seat r back body h.2 in ((h.0, h.1, a.0), a.1, a.2, a.3)

  pub fill_seats : (fr : Frame) (r : Residual) (body : Body) → frame_seats fr body → each_seat r (body_in fr body) → each_seat (fill fr r) body
  unfolding each_seat
  fill_seats (OfBlock b fin all rest) r body h k = (h, k)
  fill_seats (OfInstance b fin front seat back q rest) r body h k = (join_all_seats front (instance seat r back) body h.0 (h.1, k, h.2), h.3)
  fill_seats (OfOpen s) r body h k = k
  fill_seats (OfLoop s c) r body h k = k
  fill_seats (OfCall s) r body h k = k
  fill_seats (OfPar s front back) r body h k = join_seats front (branch r back) body h.0 (k, h.1)

  pub plug_seats : {A : Type 0} (f : Focus A) (r : Residual) (body : Body) → focus_seats f body → each_seat r (body_of f body) → each_seat (plug f r) body
  unfolding focus_seats
  plug_seats (Here a) r body h k = k
  plug_seats (In fr f) r body h k = fill_seats fr (plug f r) body h.0 (plug_seats f r (body_in fr body) h.1 k)

  pub graft_seats : {A B : Type 0} (f : Focus A) (x : Focus B) (body : Body) → focus_seats f body → focus_seats x (body_of f body) → focus_seats (graft f x) body
  unfolding focus_seats
  graft_seats (Here a) x body h k = k
  graft_seats (In fr f) x body h k = (h.0, graft_seats f x (body_in fr body) h.1 k)

  unfill_seats : (fr : Frame) (r : Residual) (body : Body) → each_seat (fill fr r) body → frame_seats fr body × each_seat r (body_in fr body)
  unfolding each_seat
  unfill_seats (OfBlock b fin all rest) r body h = (h.0, h.1)
  unfill_seats (OfInstance b fin front seat back q rest) r body h = let a = split_all_seats front seat r back body h.0 in ((a.0, a.1, a.3, h.1), a.2)
  unfill_seats (OfOpen s) r body h = (tt, h)
  unfill_seats (OfLoop s c) r body h = (tt, h)
  unfill_seats (OfCall s) r body h = (tt, h)
  unfill_seats (OfPar s front back) r body h = let a = split_seats front r back body h in ((a.0, a.2), a.1)

  pub unplug_seats : {A : Type 0} (f : Focus A) (r : Residual) (body : Body) → each_seat (plug f r) body → focus_seats f body × each_seat r (body_of f body)
  unfolding focus_seats
  unplug_seats (Here a) r body h = (tt, h)
  unplug_seats (In fr f) r body h = let a = unfill_seats fr (plug f r) body h in let b = unplug_seats f r (body_in fr body) a.1 in ((a.0, b.0), b.1)

  -- ---- leaves that become others

  abbrev pub Calm : (Residual → Residual) → Type 0
  Calm c = (r : Residual) (body : Body) → each_seat r body → each_seat (c r) body

  module _ (c : Residual → Residual) (calm : Calm c) where
    mutual
      unfolding each_seat each_leaf

      pub leaves_seats : (r : Residual) (body : Body) → each_seat r body → each_seat (each_leaf c r) body
      leaves_seats (Block b fin all r rest) body h = (instances_leaves all body h.0, leaves_seats r body h.1)
      leaves_seats (Open s r) body h = leaves_seats r body h
      leaves_seats (Loop s j r) body h = leaves_seats r body h
      leaves_seats (Call s r) body h = leaves_seats r (Awaited body s.node) h
      leaves_seats (Par s bs) body h = branches_leaves bs body h
      leaves_seats Over body h = h
      leaves_seats (Run k a) body h = calm (Run k a) body h
      leaves_seats (WaitInput k s) body h = calm (WaitInput k s) body h
      leaves_seats (WaitTime d s) body h = calm (WaitTime d s) body h
      leaves_seats (WaitEvent e s) body h = calm (WaitEvent e s) body h
      leaves_seats (WaitForever s) body h = calm (WaitForever s) body h
      leaves_seats (InAsync s served r) body h = calm (InAsync s served r) body h

      branches_leaves : (bs : Branches) (body : Body) → branches_seats bs body → branches_seats (each_in_branches c bs) body
      branches_leaves no_branch body h = tt
      branches_leaves (branch r more) body h = (leaves_seats r body h.0, branches_leaves more body h.1)

      instances_leaves : (all : Instances) (body : Body) → all_seats all body → all_seats (each_in_instances c all) body
      instances_leaves no_instance body h = tt
      instances_leaves (instance seat r more) body h = (h.0, leaves_seats r (Spawned seat.number) h.1, instances_leaves more body h.2)

    in_body_seats : {A : Type 0} (f : Focus A) (r : Residual) (body : Body) → focus_seats f body → each_seat r (body_of f body) → each_seat (each_in_body c f r) body
    unfolding focus_seats
    in_body_seats (Here a) r body h k = leaves_seats r body k
    in_body_seats (In fr f) r body h k = go (has_body (In fr f)) (in_body_seats f r (body_in fr body) h.1 k)
      where
        go : (b : Bool) → each_seat (each_in_body c f r) (body_in fr body)
            → each_seat (if b then fill fr (each_in_body c f r) else each_leaf c (plug (In fr f) r)) body
        go true a = fill_seats fr (each_in_body c f r) body h.0 a
        go false a = leaves_seats (plug (In fr f) r) body (fill_seats fr (plug f r) body h.0 (plug_seats f r (body_in fr body) h.1 k))

    pub woken_seats : {A : Type 0} (code : Option ℕ) (f : Focus A) (r : Residual) (body : Body) → focus_seats f body → each_seat r (body_of f body)
        → each_seat (woken code c f r) body
    woken_seats None f r body h k = leaves_seats (plug f r) body (plug_seats f r body h k)
    woken_seats (Some j) f r body h k = in_body_seats f r body h k

  -- ---- an instance that is killed, and a new one

  unseated_seats : (k : ℕ) (all : Instances) (body : Body) → all_seats all body → all_seats (unseated k all) body
  unfolding each_seat
  unseated_seats k no_instance body h = h
  unseated_seats k (instance seat r more) body h = go (seat.number == k) (unseated_seats k more body h.2)
    where
      go : (b : Bool) → all_seats (unseated k more) body → all_seats (if b then more else instance seat r (unseated k more)) body
      go true ih = h.2
      go false ih = (h.0, h.1, ih)

  unseat_frame_seats : (k : ℕ) (fr : Frame) (body : Body) → frame_seats fr body → frame_seats (unseat_frame k fr) body
  unseat_frame_seats k (OfBlock b fin all rest) body h = unseated_seats k all body h
  unseat_frame_seats k (OfInstance b fin front seat back r rest) body h = h
  unseat_frame_seats k (OfOpen s) body h = h
  unseat_frame_seats k (OfLoop s c) body h = h
  unseat_frame_seats k (OfCall s) body h = h
  unseat_frame_seats k (OfPar s front back) body h = h

  unseat_body : (k : ℕ) (fr : Frame) (body : Body) → body_in (unseat_frame k fr) body ≡ body_in fr body
  unseat_body k (OfBlock b fin all rest) body = refl
  unseat_body k (OfInstance b fin front seat back r rest) body = refl
  unseat_body k (OfOpen s) body = refl
  unseat_body k (OfLoop s c) body = refl
  unseat_body k (OfCall s) body = refl
  unseat_body k (OfPar s front back) body = refl

  pub unseat_seats : (k : ℕ) (f : Focus Act) (body : Body) → focus_seats f body → focus_seats (unseat k f) body
  unfolding focus_seats
  unseat_seats k (Here a) body h = tt
  unseat_seats k (In fr f) body h = (unseat_frame_seats k fr body h.0, subst (focus_seats (unseat k f)) (sym (unseat_body k fr body)) (unseat_seats k f (body_in fr body) h.1))

  module _ (seat : Seat) (r : Residual) (inside : each_seat r (Spawned seat.number)) where
    -- where a block around the leaf has the pool, the new instance may stand there
    abbrev pub frame_takes : Frame → Body → Type 0
    frame_takes (OfBlock b fin all rest) body = (n : ℕ) → size_in seat.pool (out-KBlock b).decls ≡ Some n → P (at_seat seat body)
    frame_takes fr body = Unit {0}

    unfoldable pub focus_takes : Focus Act → Body → Type 0
    focus_takes (Here a) body = Unit {0}
    focus_takes (In fr f) body = frame_takes fr body × focus_takes f (body_in fr body)

    with_seats : (all : Instances) (body : Body) → P (at_seat seat body) → all_seats all body → all_seats (with_instance seat r all) body
    unfolding each_seat
    with_seats no_instance body p h = (p, inside, tt)
    with_seats (instance other q more) body p h = go (nat_lt seat.pool other.pool) (with_seats more body p h.2)
      where
        go : (b : Bool) → all_seats (with_instance seat r more) body
            → all_seats (if b then instance seat r (instance other q more) else instance other q (with_instance seat r more)) body
        go true ih = (p, inside, h)
        go false ih = (h.0, h.1, ih)

    seat_frame_seats : (fr : Frame) (body : Body) → frame_takes fr body → frame_seats fr body → frame_seats (seat_frame seat r fr) body
    seat_frame_seats (OfBlock b fin all rest) body t h = go (size_in seat.pool (out-KBlock b).decls) refl
      where
        go : (o : Option ℕ) → size_in seat.pool (out-KBlock b).decls ≡ o → all_seats (seated_if o seat r all) body
        go None e = h
        go (Some n) e = with_seats all body (t n e) h
    seat_frame_seats (OfInstance b fin front other back q rest) body t h = h
    seat_frame_seats (OfOpen s) body t h = h
    seat_frame_seats (OfLoop s c) body t h = h
    seat_frame_seats (OfCall s) body t h = h
    seat_frame_seats (OfPar s front back) body t h = h

    seat_body : (fr : Frame) (body : Body) → body_in (seat_frame seat r fr) body ≡ body_in fr body
    seat_body (OfBlock b fin all rest) body = refl
    seat_body (OfInstance b fin front other back q rest) body = refl
    seat_body (OfOpen s) body = refl
    seat_body (OfLoop s c) body = refl
    seat_body (OfCall s) body = refl
    seat_body (OfPar s front back) body = refl

    pub seated_seats : (f : Focus Act) (body : Body) → focus_takes f body → focus_seats f body → focus_seats (seated seat r f) body
    unfolding focus_seats focus_takes
    seated_seats (Here a) body t h = tt
    seated_seats (In fr f) body t h = (seat_frame_seats fr body t.0 h.0, subst (focus_seats (seated seat r f)) (sym (seat_body fr body)) (seated_seats f (body_in fr body) t.1 h.1))
