-- What wakes may be left on the same ways as before, and is over just where it was.
use Rattle.std.proofs.Common.{◌≡◌, refl, ap, ◌∙◌, ℕ, ℤ, Bool, true, false, if◌then◌else◌, ◌||◌, ◌&&◌, ◌==◌, List, [], ◌∷◌, ◌++◌, Option, Some, None}
use Rattle.ceu_tree.specs.declared.kernel.KNode.{KNode}
use Rattle.ceu_tree.specs.declared.kernel.KBlock.{out-KBlock}
use Rattle.ceu_tree.specs.declared.kernel.KStmt.{out-KStmt}
use Rattle.ceu_tree.specs.Residual.{Finish, Residual, Over, Run, WaitInput, WaitTime, WaitEvent, WaitForever, InAsync, Block, Open, Loop, Call, Par, Branches, no_branch, branch}
use Rattle.ceu_tree.specs.Focus.{Frame, OfBlock, OfInstance, OfOpen, OfLoop, OfCall, OfPar, Focus, Here, In, join, fill, plug, has_body}
use Rattle.ceu_tree.specs.Wake.{each_leaf, each_in_branches, each_in_body, by_event, woken}
use Rattle.ceu_tree.specs.Around.{is_over, kind_of}
use Rattle.ceu_tree.specs.Paths.{ToEnd, has_end, seq_ways, par_ways, quick_list}
use Rattle.laws_bounds_steps.specs.Ways.{out_of, ways_of_loop, ways, ways_of_branches, each_may_end}

pair_same : {A B C : Type 0} (f : A → B → C) (a b : A) (x y : B) → a ≡ b → x ≡ y → f a x ≡ f b y
pair_same f a b x y e h = ap (λ q. f q x) e ∙ ap (f b) h

-- ---- in a frame

module _ (P : List Bool) where
  branches_same : (front back : Branches) (q r : Residual) → ways P q ≡ ways P r → ways_of_branches P (join front (branch q back)) ≡ ways_of_branches P (join front (branch r back))
  unfolding ways
  branches_same no_branch back q r h = ap (λ w. w ++ ways_of_branches P back) h
  branches_same (branch x more) back q r h = ap (λ w. ways P x ++ w) (branches_same more back q r h)

  ends_same : (front back : Branches) (q r : Residual) → ways P q ≡ ways P r → is_over q ≡ is_over r → each_may_end P (join front (branch q back)) ≡ each_may_end P (join front (branch r back))
  unfolding ways
  ends_same no_branch back q r h o = pair_same (λ a w. (a || has_end w) && each_may_end P back) (is_over q) (is_over r) (ways P q) (ways P r) o h
  ends_same (branch x more) back q r h o = ap (λ b. (is_over x || has_end (ways P x)) && b) (ends_same more back q r h o)

  pub fill_ways : (fr : Frame) (q r : Residual) → ways P q ≡ ways P r → is_over q ≡ is_over r → ways P (fill fr q) ≡ ways P (fill fr r)
  unfolding ways
  fill_ways (OfBlock b fin all rest) q r h o = ap (λ w. out_of (out-KBlock b).node (seq_ways w (quick_list P rest))) h
  fill_ways (OfInstance b fin front seat back running rest) q r h o = refl
  fill_ways (OfOpen s) q r h o = ap (out_of s.node) h
  fill_ways (OfLoop s c) q r h o = ap (ways_of_loop P s.node (out-KStmt s.stmt) c) h
  fill_ways (OfCall s) q r h o = h
  fill_ways (OfPar s front back) q r h o =
      pair_same (par_ways (kind_of (out-KStmt s.stmt))) _ _ _ _ (branches_same front back q r h) (ends_same front back q r h o)

pub fill_over : (fr : Frame) (q r : Residual) → is_over (fill fr q) ≡ is_over (fill fr r)
fill_over (OfBlock b fin all rest) q r = refl
fill_over (OfInstance b fin front seat back running rest) q r = refl
fill_over (OfOpen s) q r = refl
fill_over (OfLoop s c) q r = refl
fill_over (OfCall s) q r = refl
fill_over (OfPar s front back) q r = refl

-- ---- every leaf of a tree

module _ (level e : ℕ) (v : ℤ) where
  either_over : (b : Bool) (s : KNode) (k : ℕ) → is_over (if b then Run level (Finish s v) else WaitEvent k s) ≡ false
  either_over true s k = refl
  either_over false s k = refl

  pub leaves_over : (r : Residual) → is_over (each_leaf (by_event level e v) r) ≡ is_over r
  unfolding each_leaf
  leaves_over (WaitEvent k s) = either_over (k == e) s k
  leaves_over r = refl

  module _ (P : List Bool) where
    either_ways : (b : Bool) (s : KNode) (k : ℕ) → ways P (if b then Run level (Finish s v) else WaitEvent k s) ≡ ToEnd ∷ []
    unfolding ways
    either_ways true s k = refl
    either_ways false s k = refl

    mutual
      unfolding ways each_leaf

      pub leaves_ways : (r : Residual) → ways P (each_leaf (by_event level e v) r) ≡ ways P r
      leaves_ways (Block b fin all r rest) = ap (λ w. out_of (out-KBlock b).node (seq_ways w (quick_list P rest))) (leaves_ways r)
      leaves_ways (Open s r) = ap (out_of s.node) (leaves_ways r)
      leaves_ways (Loop s c r) = ap (ways_of_loop P s.node (out-KStmt s.stmt) c) (leaves_ways r)
      leaves_ways (Call s r) = leaves_ways r
      leaves_ways (Par s bs) = pair_same (par_ways (kind_of (out-KStmt s.stmt))) _ _ _ _ (leaves_branches bs) (leaves_end bs)
      leaves_ways (WaitEvent k s) = either_ways (k == e) s k
      leaves_ways Over = refl
      leaves_ways (Run n a) = refl
      leaves_ways (WaitInput k s) = refl
      leaves_ways (WaitTime d s) = refl
      leaves_ways (WaitForever s) = refl
      leaves_ways (InAsync s served r) = refl

      leaves_branches : (bs : Branches) → ways_of_branches P (each_in_branches (by_event level e v) bs) ≡ ways_of_branches P bs
      leaves_branches no_branch = refl
      leaves_branches (branch r more) = pair_same (λ a b. a ++ b) _ _ _ _ (leaves_ways r) (leaves_branches more)

      leaves_end : (bs : Branches) → each_may_end P (each_in_branches (by_event level e v) bs) ≡ each_may_end P bs
      leaves_end no_branch = refl
      leaves_end (branch r more) =
          pair_same (λ a b. a && b) _ _ _ _ (pair_same (λ a w. a || has_end w) _ _ _ _ (leaves_over r) (leaves_ways r)) (leaves_end more)

    -- ---- in the leaf's own open body alone

    body_over : {A : Type 0} (f : Focus A) (r : Residual) → is_over (each_in_body (by_event level e v) f r) ≡ is_over (plug f r)
    body_over (Here a) r = leaves_over r
    body_over (In fr f) r = go (has_body (In fr f))
      where
        go : (b : Bool) → is_over (if b then fill fr (each_in_body (by_event level e v) f r) else each_leaf (by_event level e v) (plug (In fr f) r)) ≡ is_over (plug (In fr f) r)
        go true = fill_over fr (each_in_body (by_event level e v) f r) (plug f r)
        go false = leaves_over (plug (In fr f) r)

    body_ways : {A : Type 0} (f : Focus A) (r : Residual) → ways P (each_in_body (by_event level e v) f r) ≡ ways P (plug f r)
    body_ways (Here a) r = leaves_ways r
    body_ways (In fr f) r = go (has_body (In fr f)) (body_ways f r)
      where
        go : (b : Bool) → ways P (each_in_body (by_event level e v) f r) ≡ ways P (plug f r)
            → ways P (if b then fill fr (each_in_body (by_event level e v) f r) else each_leaf (by_event level e v) (plug (In fr f) r)) ≡ ways P (plug (In fr f) r)
        go true h = fill_ways P fr (each_in_body (by_event level e v) f r) (plug f r) h (body_over f r)
        go false h = leaves_ways (plug (In fr f) r)

    pub woken_ways : {A : Type 0} (code : Option ℕ) (f : Focus A) (r : Residual) → ways P (woken code (by_event level e v) f r) ≡ ways P (plug f r)
    woken_ways None f r = leaves_ways (plug f r)
    woken_ways (Some code) f r = body_ways f r

    pub woken_over : {A : Type 0} (code : Option ℕ) (f : Focus A) (r : Residual) → is_over (woken code (by_event level e v) f r) ≡ is_over (plug f r)
    woken_over None f r = leaves_over (plug f r)
    woken_over (Some code) f r = body_over f r
