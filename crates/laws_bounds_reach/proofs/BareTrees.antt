-- Trees, frames and turns in which a block that spawns nothing has no instance.
use Rattle.std.proofs.Common.{◌≡◌, refl, sym, ap, ◌∙◌, ℕ, Bool, true, false, if◌then◌else◌, Option, Some, None}
use Rattle.std.proofs.lemmas.Bool.{false≢true}
use Rattle.ceu_tree.specs.declared.kernel.KBlock.{KBlock}
use Rattle.ceu_tree.specs.Residual.{Seat, Residual, Over, Run, WaitInput, WaitTime, WaitEvent, WaitForever, InAsync, Block, Open, Loop, Call, Par, Branches, no_branch, branch, Instances, no_instance, instance}
use Rattle.ceu_tree.specs.Focus.{Frame, OfBlock, OfInstance, OfOpen, OfLoop, OfCall, OfPar, Focus, Here, In, join, join_instances, fill, plug, graft, has_body}
use Rattle.ceu_tree.specs.Wake.{each_leaf, each_in_branches, each_in_instances, each_in_body, woken}
use Rattle.laws_bounds_reach.specs.Standing.{spawns_nothing, BlockBare, pools_bare, each_bare, all_bare, frame_bare, focus_bare}

pub joined : (xs ys : Branches) → each_bare xs → each_bare ys → each_bare (join xs ys)
unfolding pools_bare
joined no_branch ys h k = k
joined (branch r more) ys h k = (h.0, joined more ys h.1 k)

pub joined_all : (xs ys : Instances) → all_bare xs → all_bare ys → all_bare (join_instances xs ys)
unfolding pools_bare
joined_all no_instance ys h k = k
joined_all (instance seat r more) ys h k = (h.0, joined_all more ys h.1 k)

-- where something is spawned nothing is asked
pub spawns : (b : KBlock) (all : Instances) → spawns_nothing b ≡ false → BlockBare b all
spawns b all h k = absurd (false≢true (sym h ∙ k))

pub filled : (fr : Frame) (r : Residual) → frame_bare fr → pools_bare r → pools_bare (fill fr r)
unfolding pools_bare
filled (OfBlock b fin all rest) r h k = (h.0, h.1, k)
filled (OfInstance b fin front seat back q rest) r h k = (spawns b (join_instances front (instance seat r back)) h.0, joined_all front (instance seat r back) h.1 (k, h.2), h.3)
filled (OfOpen s) r h k = k
filled (OfLoop s c) r h k = k
filled (OfCall s) r h k = k
filled (OfPar s front back) r h k = joined front (branch r back) h.0 (k, h.1)

pub plugged : {A : Type 0} (f : Focus A) (r : Residual) → focus_bare f → pools_bare r → pools_bare (plug f r)
unfolding focus_bare
plugged (Here a) r h k = k
plugged (In fr f) r h k = filled fr (plug f r) h.0 (plugged f r h.1 k)

pub grafted : {A B : Type 0} (f : Focus A) (x : Focus B) → focus_bare f → focus_bare x → focus_bare (graft f x)
unfolding focus_bare
grafted (Here a) x h k = k
grafted (In fr f) x h k = (h.0, grafted f x h.1 k)

-- ---- out of a tree

split_joined : (xs : Branches) (r : Residual) (ys : Branches) → each_bare (join xs (branch r ys)) → each_bare xs × pools_bare r × each_bare ys
unfolding pools_bare
split_joined no_branch r ys h = (tt, h.0, h.1)
split_joined (branch q more) r ys h = let a = split_joined more r ys h.1 in ((h.0, a.0), a.1, a.2)

split_all : (xs : Instances) (seat : Seat) (r : Residual) (ys : Instances) → all_bare (join_instances xs (instance seat r ys)) → all_bare xs × pools_bare r × all_bare ys
unfolding pools_bare
split_all no_instance seat r ys h = (tt, h.0, h.1)
split_all (instance other q more) seat r ys h = let a = split_all more seat r ys h.1 in ((h.0, a.0), a.1, a.2)

some_instance : (xs : Instances) (seat : Seat) (r : Residual) (ys : Instances) → join_instances xs (instance seat r ys) ≡ no_instance → ⊥
some_instance no_instance seat r ys h = cc
some_instance (instance other q more) seat r ys h = cc

-- a block that has an instance spawns
has_spawned : (b : KBlock) (xs : Instances) (seat : Seat) (r : Residual) (ys : Instances) → BlockBare b (join_instances xs (instance seat r ys)) → spawns_nothing b ≡ false
has_spawned b xs seat r ys h = go (spawns_nothing b) refl
  where
    go : (c : Bool) → spawns_nothing b ≡ c → c ≡ false
    go true e = absurd (some_instance xs seat r ys (h e))
    go false e = refl

unfilled : (fr : Frame) (r : Residual) → pools_bare (fill fr r) → frame_bare fr × pools_bare r
unfolding pools_bare
unfilled (OfBlock b fin all rest) r h = ((h.0, h.1), h.2)
unfilled (OfInstance b fin front seat back q rest) r h = let a = split_all front seat r back h.1 in ((has_spawned b front seat r back h.0, a.0, a.2, h.2), a.1)
unfilled (OfOpen s) r h = (tt, h)
unfilled (OfLoop s c) r h = (tt, h)
unfilled (OfCall s) r h = (tt, h)
unfilled (OfPar s front back) r h = let a = split_joined front r back h in ((a.0, a.2), a.1)

pub unplugged : {A : Type 0} (f : Focus A) (r : Residual) → pools_bare (plug f r) → focus_bare f × pools_bare r
unfolding focus_bare
unplugged (Here a) r h = (tt, h)
unplugged (In fr f) r h = let a = unfilled fr (plug f r) h in let b = unplugged f r a.1 in ((a.0, b.0), b.1)

-- ---- leaves that become others

module _ (g : Residual → Residual) (keeps : (r : Residual) → pools_bare r → pools_bare (g r)) where
  bare_block : (b : KBlock) (all : Instances) → BlockBare b all → BlockBare b (each_in_instances g all)
  unfolding each_leaf
  bare_block b all h k = ap (each_in_instances g) (h k)

  mutual
    unfolding pools_bare each_leaf

    pub leaves_kept : (r : Residual) → pools_bare r → pools_bare (each_leaf g r)
    leaves_kept (Block b fin all r rest) h = (bare_block b all h.0, all_kept all h.1, leaves_kept r h.2)
    leaves_kept (Open s r) h = leaves_kept r h
    leaves_kept (Loop s c r) h = leaves_kept r h
    leaves_kept (Call s r) h = leaves_kept r h
    leaves_kept (Par s bs) h = each_kept bs h
    leaves_kept Over h = h
    leaves_kept (Run n a) h = keeps (Run n a) h
    leaves_kept (WaitInput k s) h = keeps (WaitInput k s) h
    leaves_kept (WaitTime d s) h = keeps (WaitTime d s) h
    leaves_kept (WaitEvent e s) h = keeps (WaitEvent e s) h
    leaves_kept (WaitForever s) h = keeps (WaitForever s) h
    leaves_kept (InAsync s served r) h = keeps (InAsync s served r) h

    each_kept : (bs : Branches) → each_bare bs → each_bare (each_in_branches g bs)
    each_kept no_branch h = tt
    each_kept (branch r more) h = (leaves_kept r h.0, each_kept more h.1)

    all_kept : (all : Instances) → all_bare all → all_bare (each_in_instances g all)
    all_kept no_instance h = tt
    all_kept (instance seat r more) h = (leaves_kept r h.0, all_kept more h.1)

  body_kept : {A : Type 0} (f : Focus A) (r : Residual) → focus_bare f → pools_bare r → pools_bare (each_in_body g f r)
  unfolding focus_bare
  body_kept (Here a) r h k = leaves_kept r k
  body_kept (In fr f) r h k = go (has_body (In fr f)) (body_kept f r h.1 k)
    where
      go : (b : Bool) → pools_bare (each_in_body g f r) → pools_bare (if b then fill fr (each_in_body g f r) else each_leaf g (plug (In fr f) r))
      go true a = filled fr (each_in_body g f r) h.0 a
      go false a = leaves_kept (plug (In fr f) r) (filled fr (plug f r) h.0 (plugged f r h.1 k))

  pub woken_kept : {A : Type 0} (code : Option ℕ) (f : Focus A) (r : Residual) → focus_bare f → pools_bare r → pools_bare (woken code g f r)
  woken_kept None f r h k = leaves_kept (plug f r) (plugged f r h k)
  woken_kept (Some code) f r h k = body_kept f r h k
