-- Trees, frames and turns whose ranges count within an int.
use Rattle.std.proofs.Common.{◌≡◌, refl, subst, ℕ, ℤ, ◌+ℤ◌, int_le, Bool, true, false, if◌then◌else◌, Option, Some, None, arith}
use Rattle.std.proofs.lemmas.Int.{ints}
use Rattle.ceu_base.specs.declared.kinds.Ty.TheVariants as ty
use Rattle.ceu_base.specs.Values.{least, of_test}
use Rattle.ceu_tree.specs.declared.kernel.KLoop.{KLoop}
use Rattle.ceu_tree.specs.declared.kernel.KLoop.TheVariants as turns
use Rattle.ceu_tree.specs.declared.kernel.KStmt.{out-KStmt}
use Rattle.ceu_tree.specs.declared.kernel.KStmt.TheOpen.{KStmt-F}
use Rattle.ceu_tree.specs.Residual.{Act, Counter, Upward, Seat, Residual, Over, Run, WaitInput, WaitTime, WaitEvent, WaitForever, InAsync, Block, Open, Loop, Call, Par, Branches, no_branch, branch, Instances, no_instance, instance}
use Rattle.ceu_tree.specs.Focus.{Frame, OfBlock, OfInstance, OfOpen, OfLoop, OfCall, OfPar, Focus, Here, In, join, join_instances, fill, plug, graft, leaf, has_body}
use Rattle.ceu_tree.specs.Leaf.{Layer}
use Rattle.ceu_tree.specs.Wake.{each_leaf, each_in_branches, each_in_instances, each_in_body, woken}
use Rattle.laws_meaning_counters.specs.Counters.{is_first, at_loop}
use Rattle.laws_meaning_counters.specs.Ints.{RangeInt, turns_int, layer_int, tree_int, each_int, all_int, frame_int, focus_int}

pub le_is : (a b : ℤ) → (int_le a b ≡ false → ⊥) → int_le a b ≡ true
le_is a b h = go (int_le a b) refl
  where
    go : (t : Bool) → int_le a b ≡ t → int_le a b ≡ true
    go true e = e
    go false e = absurd (h e)

-- ---- in a turn it says more than at the head

range_later : (first : Bool) (v last : ℤ) → RangeInt false v last → RangeInt first v last
range_later false v last h = h
range_later true v last h = let a = h.from in record { from = le_is (least ty.S32 +ℤ of_test false) v (λ e. omega (arith, ints, e, a)); to = h.to }

turns_later : (first : Bool) (k : KLoop) (c : Counter) → turns_int false k c → turns_int first k c
turns_later first (turns.Range i next end open_a a b open_b) (Upward v last) h = range_later first v last h
turns_later first k c h = tt

layer_later : (first : Bool) (layer : Layer) (c : Counter) → layer_int false layer c → layer_int first layer c
layer_later first (KStmt-F.Loop k b) c h = turns_later first k c h
layer_later first layer c h = tt

pub frame_later : (first : Bool) (fr : Frame) → frame_int false fr → frame_int first fr
frame_later first (OfBlock b fin all rest) h = h
frame_later first (OfInstance b fin front seat back r rest) h = h
frame_later first (OfOpen s) h = h
frame_later first (OfLoop s c) h = layer_later first (out-KStmt s.stmt) c h
frame_later first (OfCall s) h = h
frame_later first (OfPar s front back) h = h

-- ---- into a tree

pub joined : (xs ys : Branches) → each_int xs → each_int ys → each_int (join xs ys)
unfolding each_int
joined no_branch ys h k = k
joined (branch r more) ys h k = (h.0, joined more ys h.1 k)

pub joined_all : (xs ys : Instances) → all_int xs → all_int ys → all_int (join_instances xs ys)
unfolding all_int
joined_all no_instance ys h k = k
joined_all (instance seat r more) ys h k = (h.0, joined_all more ys h.1 k)

pub filled : (fr : Frame) (r : Residual) → frame_int false fr → tree_int r → tree_int (fill fr r)
unfolding tree_int
filled (OfBlock b fin all rest) r h k = (h, k)
filled (OfInstance b fin front seat back q rest) r h k = (joined_all front (instance seat r back) h.0 (k, h.1), h.2)
filled (OfOpen s) r h k = k
filled (OfLoop s c) r h k = (h, k)
filled (OfCall s) r h k = k
filled (OfPar s front back) r h k = joined front (branch r back) h.0 (k, h.1)

not_at : (f : Focus Act) → is_first (leaf f) ≡ false → at_loop is_first f ≡ false
not_at (Here a) e = e
not_at (In fr f) e = refl

pub plugged : (f : Focus Act) (r : Residual) → is_first (leaf f) ≡ false → focus_int f → tree_int r → tree_int (plug f r)
unfolding focus_int
plugged (Here a) r e h k = k
plugged (In fr f) r e h k = filled fr (plug f r) (subst (λ t. frame_int t fr) (not_at f e) h.0) (plugged f r e h.1 k)

pub grafted : (f y : Focus Act) → is_first (leaf f) ≡ false → focus_int f → focus_int y → focus_int (graft f y)
unfolding focus_int
grafted (Here a) y e h k = k
grafted (In fr f) y e h k = (frame_later (at_loop is_first (graft f y)) fr (subst (λ t. frame_int t fr) (not_at f e) h.0), grafted f y e h.1 k)

-- ---- out of a tree

split_joined : (xs : Branches) (r : Residual) (ys : Branches) → each_int (join xs (branch r ys)) → each_int xs × tree_int r × each_int ys
unfolding each_int
split_joined no_branch r ys h = (tt, h.0, h.1)
split_joined (branch q more) r ys h = let a = split_joined more r ys h.1 in ((h.0, a.0), a.1, a.2)

split_all : (xs : Instances) (seat : Seat) (r : Residual) (ys : Instances) → all_int (join_instances xs (instance seat r ys)) → all_int xs × tree_int r × all_int ys
unfolding all_int
split_all no_instance seat r ys h = (tt, h.0, h.1)
split_all (instance other q more) seat r ys h = let a = split_all more seat r ys h.1 in ((h.0, a.0), a.1, a.2)

unfilled : (fr : Frame) (r : Residual) → tree_int (fill fr r) → frame_int false fr × tree_int r
unfolding tree_int
unfilled (OfBlock b fin all rest) r h = (h.0, h.1)
unfilled (OfInstance b fin front seat back q rest) r h = let a = split_all front seat r back h.0 in ((a.0, a.2, h.1), a.1)
unfilled (OfOpen s) r h = (tt, h)
unfilled (OfLoop s c) r h = (h.0, h.1)
unfilled (OfCall s) r h = (tt, h)
unfilled (OfPar s front back) r h = let a = split_joined front r back h in ((a.0, a.2), a.1)

pub unplugged : (f : Focus Act) (r : Residual) → tree_int (plug f r) → focus_int f × tree_int r
unfolding focus_int
unplugged (Here a) r h = (tt, h)
unplugged (In fr f) r h = let a = unfilled fr (plug f r) h in let c = unplugged f r a.1 in ((frame_later (at_loop is_first f) fr a.0, c.0), c.1)

-- ---- leaves that become others

module _ (g : Residual → Residual) (keeps : (r : Residual) → tree_int r → tree_int (g r)) where
  mutual
    unfolding tree_int each_leaf

    pub leaves_kept : (r : Residual) → tree_int r → tree_int (each_leaf g r)
    leaves_kept (Block b fin all r rest) h = (all_kept all h.0, leaves_kept r h.1)
    leaves_kept (Open s r) h = leaves_kept r h
    leaves_kept (Loop s c r) h = (h.0, leaves_kept r h.1)
    leaves_kept (Call s r) h = leaves_kept r h
    leaves_kept (Par s bs) h = each_kept bs h
    leaves_kept Over h = h
    leaves_kept (Run n a) h = keeps (Run n a) h
    leaves_kept (WaitInput k s) h = keeps (WaitInput k s) h
    leaves_kept (WaitTime d s) h = keeps (WaitTime d s) h
    leaves_kept (WaitEvent e s) h = keeps (WaitEvent e s) h
    leaves_kept (WaitForever s) h = keeps (WaitForever s) h
    leaves_kept (InAsync s served r) h = keeps (InAsync s served r) h

    each_kept : (bs : Branches) → each_int bs → each_int (each_in_branches g bs)
    each_kept no_branch h = tt
    each_kept (branch r more) h = (leaves_kept r h.0, each_kept more h.1)

    all_kept : (all : Instances) → all_int all → all_int (each_in_instances g all)
    all_kept no_instance h = tt
    all_kept (instance seat r more) h = (leaves_kept r h.0, all_kept more h.1)

  body_kept : (f : Focus Act) (r : Residual) → is_first (leaf f) ≡ false → focus_int f → tree_int r → tree_int (each_in_body g f r)
  unfolding focus_int
  body_kept (Here a) r e h k = leaves_kept r k
  body_kept (In fr f) r e h k = go (has_body (In fr f)) (body_kept f r e h.1 k)
    where
      own : frame_int false fr
      own = subst (λ t. frame_int t fr) (not_at f e) h.0

      go : (t : Bool) → tree_int (each_in_body g f r) → tree_int (if t then fill fr (each_in_body g f r) else each_leaf g (plug (In fr f) r))
      go true a = filled fr (each_in_body g f r) own a
      go false a = leaves_kept (plug (In fr f) r) (filled fr (plug f r) own (plugged f r e h.1 k))

  pub woken_kept : (code : Option ℕ) (f : Focus Act) (r : Residual) → is_first (leaf f) ≡ false → focus_int f → tree_int r → tree_int (woken code g f r)
  woken_kept None f r e h k = leaves_kept (plug f r) (plugged f r e h k)
  woken_kept (Some code) f r e h k = body_kept f r e h k
