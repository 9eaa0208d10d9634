-- Trees, frames and turns in which all ranges hold.
use Rattle.std.proofs.Common.{ℕ, Bool, true, false, if◌then◌else◌, Option, Some, None}
use Rattle.ceu_tree.specs.Residual.{Seat, Residual, Over, Run, WaitInput, WaitTime, WaitEvent, WaitForever, InAsync, Block, Open, Loop, Call, Par, Branches, no_branch, branch, Instances, no_instance, instance}
use Rattle.ceu_tree.specs.Focus.{Frame, OfBlock, OfInstance, OfOpen, OfLoop, OfCall, OfPar, Focus, Here, In, join, join_instances, fill, plug, graft, has_body}
use Rattle.ceu_tree.specs.Wake.{each_leaf, each_in_branches, each_in_instances, each_in_body, woken}
use Rattle.laws_meaning_counters.specs.Ranges.{in_range, each_in_range, all_in_range, frame_in_range, focus_in_range}

pub joined : (xs ys : Branches) → each_in_range xs → each_in_range ys → each_in_range (join xs ys)
unfolding each_in_range
joined no_branch ys h k = k
joined (branch r more) ys h k = (h.0, joined more ys h.1 k)

pub joined_all : (xs ys : Instances) → all_in_range xs → all_in_range ys → all_in_range (join_instances xs ys)
unfolding all_in_range
joined_all no_instance ys h k = k
joined_all (instance seat r more) ys h k = (h.0, joined_all more ys h.1 k)

pub filled : (fr : Frame) (r : Residual) → frame_in_range fr → in_range r → in_range (fill fr r)
unfolding in_range
filled (OfBlock b fin all rest) r h k = (h, k)
filled (OfInstance b fin front seat back q rest) r h k = (joined_all front (instance seat r back) h.0 (k, h.1), h.2)
filled (OfOpen s) r h k = k
filled (OfLoop s c) r h k = (h, k)
filled (OfCall s) r h k = k
filled (OfPar s front back) r h k = joined front (branch r back) h.0 (k, h.1)

pub plugged : {A : Type 0} (f : Focus A) (r : Residual) → focus_in_range f → in_range r → in_range (plug f r)
unfolding focus_in_range
plugged (Here a) r h k = k
plugged (In fr f) r h k = filled fr (plug f r) h.0 (plugged f r h.1 k)

pub grafted : {A B : Type 0} (f : Focus A) (x : Focus B) → focus_in_range f → focus_in_range x → focus_in_range (graft f x)
unfolding focus_in_range
grafted (Here a) x h k = k
grafted (In fr f) x h k = (h.0, grafted f x h.1 k)

-- ---- out of a tree

split_joined : (xs : Branches) (r : Residual) (ys : Branches) → each_in_range (join xs (branch r ys)) → each_in_range xs × in_range r × each_in_range ys
unfolding each_in_range
split_joined no_branch r ys h = (tt, h.0, h.1)
split_joined (branch q more) r ys h = let a = split_joined more r ys h.1 in ((h.0, a.0), a.1, a.2)

split_all : (xs : Instances) (seat : Seat) (r : Residual) (ys : Instances) → all_in_range (join_instances xs (instance seat r ys)) → all_in_range xs × in_range r × all_in_range ys
unfolding all_in_range
split_all no_instance seat r ys h = (tt, h.0, h.1)
split_all (instance other q more) seat r ys h = let a = split_all more seat r ys h.1 in ((h.0, a.0), a.1, a.2)

unfilled : (fr : Frame) (r : Residual) → in_range (fill fr r) → frame_in_range fr × in_range r
unfolding in_range
unfilled (OfBlock b fin all rest) r h = (h.0, h.1)
unfilled (OfInstance b fin front seat back q rest) r h = let a = split_all front seat r back h.0 in ((a.0, a.2, h.1), a.1)
unfilled (OfOpen s) r h = (tt, h)
unfilled (OfLoop s c) r h = (h.0, h.1)
unfilled (OfCall s) r h = (tt, h)
unfilled (OfPar s front back) r h = let a = split_joined front r back h in ((a.0, a.2), a.1)

pub unplugged : {A : Type 0} (f : Focus A) (r : Residual) → in_range (plug f r) → focus_in_range f × in_range r
unfolding focus_in_range
unplugged (Here a) r h = (tt, h)
unplugged (In fr f) r h = let a = unfilled fr (plug f r) h in let b = unplugged f r a.1 in ((a.0, b.0), b.1)

-- ---- leaves that become others

module _ (g : Residual → Residual) (keeps : (r : Residual) → in_range r → in_range (g r)) where
  mutual
    unfolding in_range each_leaf

    pub leaves_kept : (r : Residual) → in_range r → in_range (each_leaf g r)
    leaves_kept (Block b fin all r rest) h = (all_kept all h.0, leaves_kept r h.1)
    leaves_kept (Open s r) h = leaves_kept r h
    leaves_kept (Loop s c r) h = (h.0, leaves_kept r h.1)
    leaves_kept (Call s r) h = leaves_kept r h
    leaves_kept (Par s bs) h = each_kept bs h
    leaves_kept Over h = h
    leaves_kept (Run n a) h = keeps (Run n a) h
    leaves_kept (WaitInput k s) h = keeps (WaitInput k s) h
    leaves_kept (WaitTime d s) h = keeps (WaitTime d s) h
    leaves_kept (WaitEvent e s) h = keeps (WaitEvent e s) h
    leaves_kept (WaitForever s) h = keeps (WaitForever s) h
    leaves_kept (InAsync s served r) h = keeps (InAsync s served r) h

    each_kept : (bs : Branches) → each_in_range bs → each_in_range (each_in_branches g bs)
    each_kept no_branch h = tt
    each_kept (branch r more) h = (leaves_kept r h.0, each_kept more h.1)

    all_kept : (all : Instances) → all_in_range all → all_in_range (each_in_instances g all)
    all_kept no_instance h = tt
    all_kept (instance seat r more) h = (leaves_kept r h.0, all_kept more h.1)

  body_kept : {A : Type 0} (f : Focus A) (r : Residual) → focus_in_range f → in_range r → in_range (each_in_body g f r)
  unfolding focus_in_range
  body_kept (Here a) r h k = leaves_kept r k
  body_kept (In fr f) r h k = go (has_body (In fr f)) (body_kept f r h.1 k)
    where
      go : (b : Bool) → in_range (each_in_body g f r) → in_range (if b then fill fr (each_in_body g f r) else each_leaf g (plug (In fr f) r))
      go true a = filled fr (each_in_body g f r) h.0 a
      go false a = leaves_kept (plug (In fr f) r) (filled fr (plug f r) h.0 (plugged f r h.1 k))

  pub woken_kept : {A : Type 0} (code : Option ℕ) (f : Focus A) (r : Residual) → focus_in_range f → in_range r → in_range (woken code g f r)
  woken_kept None f r h k = leaves_kept (plug f r) (plugged f r h k)
  woken_kept (Some code) f r h k = body_kept f r h k
