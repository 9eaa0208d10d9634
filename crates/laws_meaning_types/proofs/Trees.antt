-- Trees and frames whose trails go on with values that their targets take.
use Rattle.std.proofs.Common.{◌≡◌, refl, ap, ℕ, nat_lt, Bool, true, false, if◌then◌else◌, ◌==◌, Option, Some, None}
use Rattle.ceu_tree.specs.declared.kernel.Kernel.{Kernel}
use Rattle.ceu_tree.specs.declared.kernel.KBlock.{out-KBlock}
use Rattle.ceu_tree.specs.Residual.{Act, AtEnd, Seat, Residual, Over, Run, WaitInput, WaitTime, WaitEvent, WaitForever, InAsync, Block, Open, Loop, Call, Par, Branches, no_branch, branch, Instances, no_instance, instance}
use Rattle.ceu_tree.specs.Focus.{Frame, OfBlock, OfInstance, OfOpen, OfLoop, OfCall, OfPar, Focus, Here, In, join, join_instances, fill, plug, graft, leaf, has_body}
use Rattle.ceu_tree.specs.Wake.{each_leaf, each_in_branches, each_in_instances, each_in_body, woken}
use Rattle.ceu_tree.specs.Step.{size_in, with_instance, seated_if, seat_frame, seated, unseated, unseat_frame, unseat}
use Rattle.laws_meaning_counters.specs.Counters.{is_first}
use Rattle.laws_meaning_types.specs.Ready.{tree_ready, each_ready, all_ready, frame_ready, frames_ready}

-- ---- a focus with another leaf

abbrev pub at_end : {A : Type 0} → Focus A → Focus Act
at_end (Here a) = Here AtEnd
at_end (In fr f) = In fr (at_end f)

pub end_plug : {A : Type 0} (f : Focus A) (r : Residual) → plug (at_end f) r ≡ plug f r
end_plug (Here a) r = refl
end_plug (In fr f) r = ap (fill fr) (end_plug f r)

pub end_first : {A : Type 0} (f : Focus A) → is_first (leaf (at_end f)) ≡ false
end_first (Here a) = refl
end_first (In fr f) = end_first f

pub graft_leaf : {A B : Type 0} (f : Focus A) (x : Focus B) → leaf (graft f x) ≡ leaf x
graft_leaf (Here a) x = refl
graft_leaf (In fr f) x = graft_leaf f x

module _ (K : Kernel) where
  -- ---- into a tree

  pub joined : (xs ys : Branches) → each_ready K xs → each_ready K ys → each_ready K (join xs ys)
  unfolding tree_ready
  joined no_branch ys h k = k
  joined (branch r more) ys h k = (h.0, joined more ys h.1 k)

  pub joined_all : (xs ys : Instances) → all_ready K xs → all_ready K ys → all_ready K (join_instances xs ys)
  unfolding tree_ready
  joined_all no_instance ys h k = k
  joined_all (instance seat r more) ys h k = (h.0, joined_all more ys h.1 k)

  pub filled : (fr : Frame) (r : Residual) → frame_ready K fr → tree_ready K r → tree_ready K (fill fr r)
  unfolding tree_ready
  filled (OfBlock b fin all rest) r h k = (h, k)
  filled (OfInstance b fin front seat back q rest) r h k = (joined_all front (instance seat r back) h.0 (k, h.1), h.2)
  filled (OfOpen s) r h k = k
  filled (OfLoop s c) r h k = k
  filled (OfCall s) r h k = k
  filled (OfPar s front back) r h k = joined front (branch r back) h.0 (k, h.1)

  pub plugged : {A : Type 0} (f : Focus A) (r : Residual) → frames_ready K f → tree_ready K r → tree_ready K (plug f r)
  unfolding frames_ready
  plugged (Here a) r h k = k
  plugged (In fr f) r h k = filled fr (plug f r) h.0 (plugged f r h.1 k)

  pub grafted : {A B : Type 0} (f : Focus A) (y : Focus B) → frames_ready K f → frames_ready K y → frames_ready K (graft f y)
  unfolding frames_ready
  grafted (Here a) y h k = k
  grafted (In fr f) y h k = (h.0, grafted f y h.1 k)

  -- ---- out of a tree

  split_joined : (xs : Branches) (r : Residual) (ys : Branches) → each_ready K (join xs (branch r ys))
      → each_ready K xs × tree_ready K r × each_ready K ys
  unfolding tree_ready
  split_joined no_branch r ys h = (tt, h.0, h.1)
  split_joined (branch q more) r ys h = let a = split_joined more r ys h.1 in ((h.0, a.0), a.1, a.2)

  split_all : (xs : Instances) (seat : Seat) (r : Residual) (ys : Instances) → all_ready K (join_instances xs (instance seat r ys))
      → all_ready K xs × tree_ready K r × all_ready K ys
  unfolding tree_ready
  split_all no_instance seat r ys h = (tt, h.0, h.1)
  split_all (instance other q more) seat r ys h = let a = split_all more seat r ys h.1 in ((h.0, a.0), a.1, a.2)

  unfilled : (fr : Frame) (r : Residual) → tree_ready K (fill fr r) → frame_ready K fr × tree_ready K r
  unfolding tree_ready
  unfilled (OfBlock b fin all rest) r h = (h.0, h.1)
  unfilled (OfInstance b fin front seat back q rest) r h = let a = split_all front seat r back h.0 in ((a.0, a.2, h.1), a.1)
  unfilled (OfOpen s) r h = (tt, h)
  unfilled (OfLoop s c) r h = (tt, h)
  unfilled (OfCall s) r h = (tt, h)
  unfilled (OfPar s front back) r h = let a = split_joined front r back h in ((a.0, a.2), a.1)

  pub unplugged : {A : Type 0} (f : Focus A) (r : Residual) → tree_ready K (plug f r) → frames_ready K f × tree_ready K r
  unfolding frames_ready
  unplugged (Here a) r h = (tt, h)
  unplugged (In fr f) r h = let a = unfilled fr (plug f r) h in let c = unplugged f r a.1 in ((a.0, c.0), c.1)

  -- ---- leaves that become others

  module _ (g : Residual → Residual) (keeps : (r : Residual) → tree_ready K r → tree_ready K (g r)) where
    mutual
      unfolding tree_ready each_leaf

      pub leaves_ready : (r : Residual) → tree_ready K r → tree_ready K (each_leaf g r)
      leaves_ready (Block b fin all r rest) h = (all_kept all h.0, leaves_ready r h.1)
      leaves_ready (Open s r) h = leaves_ready r h
      leaves_ready (Loop s c r) h = leaves_ready r h
      leaves_ready (Call s r) h = leaves_ready r h
      leaves_ready (Par s bs) h = each_kept bs h
      leaves_ready Over h = h
      leaves_ready (Run n a) h = keeps (Run n a) h
      leaves_ready (WaitInput k s) h = keeps (WaitInput k s) h
      leaves_ready (WaitTime d s) h = keeps (WaitTime d s) h
      leaves_ready (WaitEvent e s) h = keeps (WaitEvent e s) h
      leaves_ready (WaitForever s) h = keeps (WaitForever s) h
      leaves_ready (InAsync s served r) h = keeps (InAsync s served r) h

      each_kept : (bs : Branches) → each_ready K bs → each_ready K (each_in_branches g bs)
      each_kept no_branch h = tt
      each_kept (branch r more) h = (leaves_ready r h.0, each_kept more h.1)

      all_kept : (all : Instances) → all_ready K all → all_ready K (each_in_instances g all)
      all_kept no_instance h = tt
      all_kept (instance seat r more) h = (leaves_ready r h.0, all_kept more h.1)

    body_ready : (f : Focus Act) (r : Residual) → frames_ready K f → tree_ready K r → tree_ready K (each_in_body g f r)
    unfolding frames_ready
    body_ready (Here a) r h k = leaves_ready r k
    body_ready (In fr f) r h k = go (has_body (In fr f)) (body_ready f r h.1 k)
      where
        go : (t : Bool) → tree_ready K (each_in_body g f r)
            → tree_ready K (if t then fill fr (each_in_body g f r) else each_leaf g (plug (In fr f) r))
        go true a = filled fr (each_in_body g f r) h.0 a
        go false a = leaves_ready (plug (In fr f) r) (filled fr (plug f r) h.0 (plugged f r h.1 k))

    pub woken_ready : (code : Option ℕ) (f : Focus Act) (r : Residual) → frames_ready K f → tree_ready K r → tree_ready K (woken code g f r)
    woken_ready None f r h k = leaves_ready (plug f r) (plugged f r h k)
    woken_ready (Some code) f r h k = body_ready f r h k

  -- ---- instances that come and go

  with_ready : (seat : Seat) (r : Residual) (all : Instances) → tree_ready K r → all_ready K all → all_ready K (with_instance seat r all)
  unfolding tree_ready
  with_ready seat r no_instance h k = (h, tt)
  with_ready seat r (instance other q more) h k = go (nat_lt seat.pool other.pool) (with_ready seat r more h k.1)
    where
      go : (b : Bool) → all_ready K (with_instance seat r more)
          → all_ready K (if b then instance seat r (instance other q more) else instance other q (with_instance seat r more))
      go true x = (h, k)
      go false x = (k.0, x)

  seated_if_ready : (o : Option ℕ) (seat : Seat) (r : Residual) (all : Instances) → tree_ready K r → all_ready K all
      → all_ready K (seated_if o seat r all)
  seated_if_ready None seat r all h k = k
  seated_if_ready (Some n) seat r all h k = with_ready seat r all h k

  seat_ready : (seat : Seat) (r : Residual) (fr : Frame) → tree_ready K r → frame_ready K fr → frame_ready K (seat_frame seat r fr)
  seat_ready seat r (OfBlock b fin all rest) h k = seated_if_ready (size_in seat.pool (out-KBlock b).decls) seat r all h k
  seat_ready seat r (OfInstance b fin front other back q rest) h k = k
  seat_ready seat r (OfOpen s) h k = k
  seat_ready seat r (OfLoop s c) h k = k
  seat_ready seat r (OfCall s) h k = k
  seat_ready seat r (OfPar s front back) h k = k

  pub seated_ready : (seat : Seat) (r : Residual) (f : Focus Act) → tree_ready K r → frames_ready K f → frames_ready K (seated seat r f)
  unfolding frames_ready
  seated_ready seat r (Here a) h k = tt
  seated_ready seat r (In fr f) h k = (seat_ready seat r fr h k.0, seated_ready seat r f h k.1)

  unseated_ready : (n : ℕ) (all : Instances) → all_ready K all → all_ready K (unseated n all)
  unfolding tree_ready
  unseated_ready n no_instance h = tt
  unseated_ready n (instance seat r more) h = go (seat.number == n) (unseated_ready n more h.1)
    where
      go : (b : Bool) → all_ready K (unseated n more) → all_ready K (if b then more else instance seat r (unseated n more))
      go true x = h.1
      go false x = (h.0, x)

  unseat_frame_ready : (n : ℕ) (fr : Frame) → frame_ready K fr → frame_ready K (unseat_frame n fr)
  unseat_frame_ready n (OfBlock b fin all rest) k = unseated_ready n all k
  unseat_frame_ready n (OfInstance b fin front other back q rest) k = k
  unseat_frame_ready n (OfOpen s) k = k
  unseat_frame_ready n (OfLoop s c) k = k
  unseat_frame_ready n (OfCall s) k = k
  unseat_frame_ready n (OfPar s front back) k = k

  pub unseat_ready : (n : ℕ) (f : Focus Act) → frames_ready K f → frames_ready K (unseat n f)
  unfolding frames_ready
  unseat_ready n (Here a) h = tt
  unseat_ready n (In fr f) h = (unseat_frame_ready n fr h.0, unseat_ready n f h.1)
