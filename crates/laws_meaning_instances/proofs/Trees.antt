-- The instances of a focus, and of the tree that it is of: how often a number is one of them, and how they stand in their pools.
use Rattle.std.proofs.Common.{◌≡◌, refl, ap, ◌∙◌, ℕ, ◌+◌, Bool, true, false, if◌then◌else◌, ◌&&◌, List, Option, Some, None, arith}
use Rattle.std.proofs.lemmas.Bool.{and_parts, and_from}
use Rattle.ceu_tree.specs.declared.kernel.KDecl.{KDecl}
use Rattle.ceu_tree.specs.declared.kernel.KBlock.{out-KBlock}
use Rattle.ceu_tree.specs.Residual.{Seat, Residual, Over, Run, WaitInput, WaitTime, WaitEvent, WaitForever, InAsync, Block, Open, Loop, Call, Par, Branches, no_branch, branch, Instances, no_instance, instance}
use Rattle.ceu_tree.specs.Focus.{Frame, OfBlock, OfInstance, OfOpen, OfLoop, OfCall, OfPar, Focus, Here, In, join, join_instances, fill, plug, graft, has_body}
use Rattle.ceu_tree.specs.Wake.{each_leaf, each_in_branches, each_in_instances, each_in_body, woken}
use Rattle.laws_meaning_instances.specs.Instances.{is_before, goes_before, pools_stand, each_pools_stand, seats_stand}
use Rattle.laws_meaning_instances.proofs.Living.{once, lives, live_branches, live_instances}

-- ---- numbers

abbrev pub live_frame : ℕ → Frame → ℕ
live_frame n (OfBlock b fin all rest) = live_instances n all
live_frame n (OfInstance b fin front seat back r rest) = once n seat.number + (live_instances n front + live_instances n back) + lives n r
live_frame n (OfPar s front back) = live_branches n front + live_branches n back
live_frame n _ = 0

unfoldable pub live_focus : {A : Type 0} → ℕ → Focus A → ℕ
live_focus n (Here a) = 0
live_focus n (In fr f) = live_frame n fr + live_focus n f

pub join_lives : (n : ℕ) (front bs : Branches) → live_branches n (join front bs) ≡ live_branches n front + live_branches n bs
unfolding lives
join_lives n no_branch bs = omega arith
join_lives n (branch r more) bs = omega (arith, join_lives n more bs)

pub join_instances_live : (n : ℕ) (front all : Instances) → live_instances n (join_instances front all) ≡ live_instances n front + live_instances n all
unfolding lives
join_instances_live n no_instance all = omega arith
join_instances_live n (instance seat r more) all = omega (arith, join_instances_live n more all)

pub fill_lives : (n : ℕ) (fr : Frame) (r : Residual) → lives n (fill fr r) ≡ live_frame n fr + lives n r
unfolding lives
fill_lives n (OfBlock b fin all rest) r = refl
fill_lives n (OfInstance b fin front seat back running rest) r = omega (arith, join_instances_live n front (instance seat r back))
fill_lives n (OfOpen s) r = omega arith
fill_lives n (OfLoop s c) r = omega arith
fill_lives n (OfCall s) r = omega arith
fill_lives n (OfPar s front back) r = omega (arith, join_lives n front (branch r back))

pub plug_lives : {A : Type 0} (n : ℕ) (f : Focus A) (r : Residual) → lives n (plug f r) ≡ live_focus n f + lives n r
unfolding live_focus
plug_lives n (Here a) r = omega arith
plug_lives n (In fr f) r = omega (arith, fill_lives n fr (plug f r), plug_lives n f r)

pub graft_lives : {A B : Type 0} (n : ℕ) (f : Focus A) (x : Focus B) → live_focus n (graft f x) ≡ live_focus n f + live_focus n x
unfolding live_focus
graft_lives n (Here a) x = omega arith
graft_lives n (In fr f) x = omega (arith, graft_lives n f x)

-- ---- places in pools

abbrev pub frame_stands : Frame → Type 0
frame_stands (OfBlock b fin all rest) = seats_stand (out-KBlock b).decls all
frame_stands (OfInstance b fin front seat back r rest) = seats_stand (out-KBlock b).decls (join_instances front (instance seat Over back)) × pools_stand r
frame_stands (OfPar s front back) = each_pools_stand front × each_pools_stand back
frame_stands fr = Unit {0}

unfoldable pub focus_stands : {A : Type 0} → Focus A → Type 0
focus_stands (Here a) = Unit {0}
focus_stands (In fr f) = frame_stands fr × focus_stands f

pub joined : (front back : Branches) → each_pools_stand front → each_pools_stand back → each_pools_stand (join front back)
unfolding each_pools_stand
joined no_branch back h k = k
joined (branch r more) back h k = (h.0, joined more back h.1 k)

split_joined : (front : Branches) (r : Residual) (back : Branches) → each_pools_stand (join front (branch r back)) → each_pools_stand front × pools_stand r × each_pools_stand back
unfolding each_pools_stand
split_joined no_branch r back h = (tt, h.0, h.1)
split_joined (branch q more) r back h = let a = split_joined more r back h.1 in ((h.0, a.0), a.1, a.2)

-- what is inside an instance is nothing to its place
same_before : (other : Seat) (front : Instances) (seat : Seat) (q r : Residual) (back : Instances) → goes_before other (join_instances front (instance seat q back)) ≡ goes_before other (join_instances front (instance seat r back))
same_before other no_instance seat q r back = refl
same_before other (instance next p more) seat q r back =
    ap (λ b. is_before other next && b) (same_before other more seat q r back)

before_less : (other : Seat) (front : Instances) (seat : Seat) (q : Residual) (back : Instances) → goes_before other (join_instances front (instance seat q back)) ≡ true → goes_before other (join_instances front back) ≡ true
before_less other no_instance seat q back h = (and_parts _ (goes_before other back) h).1
before_less other (instance next p more) seat q back h =
    let a = and_parts (is_before other next) (goes_before other (join_instances more (instance seat q back))) h in
    and_from _ _ a.0 (before_less other more seat q back a.1)

seats_filled : (ds : List KDecl) (front : Instances) (seat : Seat) (q r : Residual) (back : Instances) → seats_stand ds (join_instances front (instance seat q back)) → pools_stand r → seats_stand ds (join_instances front (instance seat r back))
unfolding seats_stand
seats_filled ds no_instance seat q r back h k = (h.0, h.1, k, h.3)
seats_filled ds (instance other p more) seat q r back h k = (h.0, same_before other more seat r q back ∙ h.1, h.2, seats_filled ds more seat q r back h.3 k)

seats_inside : (ds : List KDecl) (front : Instances) (seat : Seat) (q : Residual) (back : Instances) → seats_stand ds (join_instances front (instance seat q back)) → pools_stand q
unfolding seats_stand
seats_inside ds no_instance seat q back h = h.2
seats_inside ds (instance other p more) seat q back h = seats_inside ds more seat q back h.3

pub seats_less : (ds : List KDecl) (front : Instances) (seat : Seat) (q : Residual) (back : Instances) → seats_stand ds (join_instances front (instance seat q back)) → seats_stand ds (join_instances front back)
unfolding seats_stand
seats_less ds no_instance seat q back h = h.3
seats_less ds (instance other p more) seat q back h = (h.0, before_less other more seat q back h.1, h.2, seats_less ds more seat q back h.3)

pub filled : (fr : Frame) (r : Residual) → frame_stands fr → pools_stand r → pools_stand (fill fr r)
unfolding pools_stand
filled (OfBlock b fin all rest) r h k = (h, k)
filled (OfInstance b fin front seat back q rest) r h k = (seats_filled (out-KBlock b).decls front seat Over r back h.0 k, h.1)
filled (OfOpen s) r h k = k
filled (OfLoop s c) r h k = k
filled (OfCall s) r h k = k
filled (OfPar s front back) r h k = joined front (branch r back) h.0 (k, h.1)

pub plugged : {A : Type 0} (f : Focus A) (r : Residual) → focus_stands f → pools_stand r → pools_stand (plug f r)
unfolding focus_stands
plugged (Here a) r h k = k
plugged (In fr f) r h k = filled fr (plug f r) h.0 (plugged f r h.1 k)

pub grafted : {A B : Type 0} (f : Focus A) (x : Focus B) → focus_stands f → focus_stands x → focus_stands (graft f x)
unfolding focus_stands
grafted (Here a) x h k = k
grafted (In fr f) x h k = (h.0, grafted f x h.1 k)

unfilled : (fr : Frame) (r : Residual) → pools_stand (fill fr r) → frame_stands fr × pools_stand r
unfolding pools_stand
unfilled (OfBlock b fin all rest) r h = (h.0, h.1)
unfilled (OfInstance b fin front seat back q rest) r h = ((seats_filled (out-KBlock b).decls front seat r Over back h.0 tt, h.1), seats_inside (out-KBlock b).decls front seat r back h.0)
unfilled (OfOpen s) r h = (tt, h)
unfilled (OfLoop s c) r h = (tt, h)
unfilled (OfCall s) r h = (tt, h)
unfilled (OfPar s front back) r h = let a = split_joined front r back h in ((a.0, a.2), a.1)

pub unplugged : {A : Type 0} (f : Focus A) (r : Residual) → pools_stand (plug f r) → focus_stands f × pools_stand r
unfolding focus_stands
unplugged (Here a) r h = (tt, h)
unplugged (In fr f) r h = let a = unfilled fr (plug f r) h in let b = unplugged f r a.1 in ((a.0, b.0), b.1)

-- ---- leaves that become others

-- a change of leaves that have no instances in them, or as many as before
pub record Calm (g : Residual → Residual) : Type 0 where
  pub counts : (n : ℕ) (r : Residual) → lives n (g r) ≡ lives n r
  pub stands : (r : Residual) → pools_stand r → pools_stand (g r)

module _ (g : Residual → Residual) (calm : Calm g) where
  module _ (n : ℕ) where
    mutual
      unfolding lives each_leaf

      pub each_lives : (r : Residual) → lives n (each_leaf g r) ≡ lives n r
      each_lives (Block b fin all r rest) = let a = instances_live all in let c = each_lives r in omega (arith, a, c)
      each_lives (Open s r) = each_lives r
      each_lives (Loop s c r) = each_lives r
      each_lives (Call s r) = each_lives r
      each_lives (Par s bs) = branches_live bs
      each_lives Over = refl
      each_lives (Run k a) = calm.counts n (Run k a)
      each_lives (WaitInput k s) = calm.counts n (WaitInput k s)
      each_lives (WaitTime d s) = calm.counts n (WaitTime d s)
      each_lives (WaitEvent e s) = calm.counts n (WaitEvent e s)
      each_lives (WaitForever s) = calm.counts n (WaitForever s)
      each_lives (InAsync s served r) = calm.counts n (InAsync s served r)

      branches_live : (bs : Branches) → live_branches n (each_in_branches g bs) ≡ live_branches n bs
      branches_live no_branch = refl
      branches_live (branch r more) = let a = each_lives r in let c = branches_live more in omega (arith, a, c)

      instances_live : (all : Instances) → live_instances n (each_in_instances g all) ≡ live_instances n all
      instances_live no_instance = refl
      instances_live (instance seat r more) = let a = each_lives r in let c = instances_live more in omega (arith, a, c)

    body_lives : {A : Type 0} (f : Focus A) (r : Residual) → lives n (each_in_body g f r) ≡ live_focus n f + lives n r
    unfolding live_focus
    body_lives (Here a) r = omega (arith, each_lives r)
    body_lives (In fr f) r = go (has_body (In fr f)) (body_lives f r)
      where
        go : (b : Bool) → lives n (each_in_body g f r) ≡ live_focus n f + lives n r → lives n (if b then fill fr (each_in_body g f r) else each_leaf g (plug (In fr f) r)) ≡ live_frame n fr + live_focus n f + lives n r
        go true h = omega (arith, fill_lives n fr (each_in_body g f r), h)
        go false h = let a = plug_lives n (In fr f) r in omega (arith, each_lives (plug (In fr f) r), a)

    pub woken_lives : {A : Type 0} (scope : Option ℕ) (f : Focus A) (r : Residual) → lives n (woken scope g f r) ≡ live_focus n f + lives n r
    woken_lives None f r = each_lives (plug f r) ∙ plug_lives n f r
    woken_lives (Some c) f r = body_lives f r

  each_before : (other : Seat) (all : Instances) → goes_before other (each_in_instances g all) ≡ goes_before other all
  unfolding each_leaf
  each_before other no_instance = refl
  each_before other (instance next p more) =
      ap (λ b. is_before other next && b) (each_before other more)

  mutual
    unfolding pools_stand each_leaf

    pub leaves_stand : (r : Residual) → pools_stand r → pools_stand (each_leaf g r)
    leaves_stand (Block b fin all r rest) h = (all_stand (out-KBlock b).decls all h.0, leaves_stand r h.1)
    leaves_stand (Open s r) h = leaves_stand r h
    leaves_stand (Loop s c r) h = leaves_stand r h
    leaves_stand (Call s r) h = leaves_stand r h
    leaves_stand (Par s bs) h = each_stand bs h
    leaves_stand Over h = h
    leaves_stand (Run k a) h = calm.stands (Run k a) h
    leaves_stand (WaitInput k s) h = calm.stands (WaitInput k s) h
    leaves_stand (WaitTime d s) h = calm.stands (WaitTime d s) h
    leaves_stand (WaitEvent e s) h = calm.stands (WaitEvent e s) h
    leaves_stand (WaitForever s) h = calm.stands (WaitForever s) h
    leaves_stand (InAsync s served r) h = calm.stands (InAsync s served r) h

    each_stand : (bs : Branches) → each_pools_stand bs → each_pools_stand (each_in_branches g bs)
    each_stand no_branch h = tt
    each_stand (branch r more) h = (leaves_stand r h.0, each_stand more h.1)

    all_stand : (ds : List KDecl) (all : Instances) → seats_stand ds all → seats_stand ds (each_in_instances g all)
    all_stand ds no_instance h = tt
    all_stand ds (instance seat r more) h = (h.0, each_before seat more ∙ h.1, leaves_stand r h.2, all_stand ds more h.3)

  body_stands : {A : Type 0} (f : Focus A) (r : Residual) → focus_stands f → pools_stand r → pools_stand (each_in_body g f r)
  unfolding focus_stands
  body_stands (Here a) r h k = leaves_stand r k
  body_stands (In fr f) r h k = go (has_body (In fr f)) (body_stands f r h.1 k)
    where
      go : (b : Bool) → pools_stand (each_in_body g f r) → pools_stand (if b then fill fr (each_in_body g f r) else each_leaf g (plug (In fr f) r))
      go true a = filled fr (each_in_body g f r) h.0 a
      go false a = leaves_stand (plug (In fr f) r) (filled fr (plug f r) h.0 (plugged f r h.1 k))

  pub woken_stand : {A : Type 0} (scope : Option ℕ) (f : Focus A) (r : Residual) → focus_stands f → pools_stand r → pools_stand (woken scope g f r)
  woken_stand None f r h k = leaves_stand (plug f r) (plugged f r h k)
  woken_stand (Some c) f r h k = body_stands f r h k
