-- What a statement costs from its start, and the ways on which it may be left at once, one level of it open.
use Rattle.std.proofs.Common.{◌≡◌, refl, sym, ap, ◌∙◌, ℕ, Bool, ◌&&◌, List, [], ◌∷◌, ◌++◌}
use Rattle.ceu_tree.specs.declared.kernel.KArm.{KArm, KArm', out-KArm}
use Rattle.ceu_tree.specs.declared.kernel.KStmt.{KStmt, out-KStmt, Row_of-KArm, end_of-KArm, more_of-KArm, items-the_row-KArm, items_shown-the_row-KArm-0, Row_of-KBlock, end_of-KBlock, more_of-KBlock, items-the_row-KBlock, items_shown-the_row-KBlock-1, If', Par'}
use Rattle.ceu_tree.specs.declared.kernel.KStmt.TheOpen.{KStmt-F}
use Rattle.ceu_tree.specs.declared.kernel.ParKind.{ParKind}
use Rattle.ceu_tree.specs.Leaf.{Layer}
use Rattle.ceu_tree.specs.Paths.{Way, ToEnd, ToEscape, ToBreak, ToContinue, has_end, end_if, flag, do_ways, loop_ways, par_ways, gathered, all_blocks_end, quick, quick_block, quick_arm, quick_arms, quick_blocks, all_end}
use Rattle.ceu_tree.specs.Costs.{Cost, cost, nothing, plus, most, sum_of, most_of, cost_at, without_one, loop_enter, enter, enter_block, enter_arm, enter_arms, enter_blocks, enter_branch}
use denote.Hole.Carrier

par_same : (k : ParKind) (a b : List Way) (x y : Bool) → a ≡ b → x ≡ y → par_ways k a x ≡ par_ways k b y
par_same k a b x y e h = ap (λ q. par_ways k q x) e ∙ ap (par_ways k b) h

module _ (P : List Bool) where
  abbrev pub quick_layer : ℕ → Layer → List Way
  quick_layer node (KStmt-F.AwaitIn k t) = []
  quick_layer node (KStmt-F.AwaitTime e u t) = []
  quick_layer node KStmt-F.Forever = []
  quick_layer node (KStmt-F.Async b) = []
  quick_layer node (KStmt-F.Break n) = ToBreak n ∷ []
  quick_layer node (KStmt-F.Continue n) = ToContinue n ∷ []
  quick_layer node (KStmt-F.Escape n e) = ToEscape n ∷ []
  quick_layer node (KStmt-F.AwaitCode c es f t) = end_if (flag c P)
  quick_layer node (KStmt-F.Do t b) = do_ways node (quick_block P b)
  quick_layer node (KStmt-F.If arms last) = gathered (quick_arm P) arms ++ quick_block P last
  quick_layer node (KStmt-F.Loop k b) = loop_ways node k (quick_block P b)
  quick_layer node (KStmt-F.Par k slot bs) = par_ways k (gathered (quick_block P) bs) (all_blocks_end P bs)
  quick_layer node layer = ToEnd ∷ []

  arms_row : {n : _} (r : Row_of-KArm n) → quick_arms P r ≡ gathered (quick_arm P) (items-the_row-KArm n r)
  unfolding quick
  arms_row end_of-KArm = refl
  arms_row (more_of-KArm b rest) = ap (λ k. quick_arm P b ++ k) (arms_row rest)

  blocks_row : {n : _} (r : Row_of-KBlock n) → quick_blocks P r ≡ gathered (quick_block P) (items-the_row-KBlock n r)
  unfolding quick
  blocks_row end_of-KBlock = refl
  blocks_row (more_of-KBlock b rest) = ap (λ k. quick_block P b ++ k) (blocks_row rest)

  ends_row : {n : _} (r : Row_of-KBlock n) → all_end P r ≡ all_blocks_end P (items-the_row-KBlock n r)
  unfolding quick
  ends_row end_of-KBlock = refl
  ends_row (more_of-KBlock b rest) = ap (λ k. has_end (quick_block P b) && k) (ends_row rest)

  pub quick_is : (node : ℕ) (st : KStmt) → quick P node st ≡ quick_layer node (out-KStmt st)
  unfolding quick out-KStmt Carrier.out
  quick_is node (If' x arms last) = ap (λ k. k ++ quick_block P last) (arms_row arms ∙ ap (gathered (quick_arm P)) (sym (items_shown-the_row-KArm-0 x arms)))
  quick_is node (Par' kind slot x bs) =
      par_same kind _ _ _ _ (blocks_row bs ∙ ap (gathered (quick_block P)) (sym (items_shown-the_row-KBlock-1 x bs))) (ends_row bs ∙ ap (all_blocks_end P) (sym (items_shown-the_row-KBlock-1 x bs)))
  quick_is node st = refl

  pub quick_arm_is : (a : KArm) → quick_arm P a ≡ quick_block P (out-KArm a).body
  unfolding quick out-KArm Carrier.out
  quick_arm_is (KArm' c b) = refl

module _ (P : List Bool) (E N : List Cost) where
  abbrev pub enter_layer : ℕ → Layer → Cost
  enter_layer node (KStmt-F.AwaitEvent e t) = cost 1 0
  enter_layer node (KStmt-F.Emit e x) = cost_at e E
  enter_layer node (KStmt-F.Spawn c es p a) = plus (cost 2 1) (cost_at c N)
  enter_layer node (KStmt-F.AwaitCode c es f t) = cost_at c N
  enter_layer node (KStmt-F.Do t b) = enter_block P E N b
  enter_layer node (KStmt-F.If arms last) = most (most_of (enter_arm P E N) arms) (enter_block P E N last)
  enter_layer node (KStmt-F.Par k slot bs) = without_one (sum_of (enter_branch P E N) bs)
  enter_layer node (KStmt-F.Loop k b) = loop_enter P node k b (enter_block P E N b)
  enter_layer node layer = nothing

  cost_arms : {n : _} (r : Row_of-KArm n) → enter_arms P E N r ≡ most_of (enter_arm P E N) (items-the_row-KArm n r)
  unfolding enter
  cost_arms end_of-KArm = refl
  cost_arms (more_of-KArm b rest) = ap (λ k. most (enter_arm P E N b) k) (cost_arms rest)

  cost_blocks : {n : _} (r : Row_of-KBlock n) → enter_blocks P E N r ≡ sum_of (enter_branch P E N) (items-the_row-KBlock n r)
  unfolding enter
  cost_blocks end_of-KBlock = refl
  cost_blocks (more_of-KBlock b rest) = ap (λ k. plus (plus (cost 1 0) (enter_block P E N b)) k) (cost_blocks rest)

  pub enter_is : (node : ℕ) (st : KStmt) → enter P E N node st ≡ enter_layer node (out-KStmt st)
  unfolding enter out-KStmt Carrier.out
  enter_is node (If' x arms last) = ap (λ k. most k (enter_block P E N last)) (cost_arms arms ∙ ap (most_of (enter_arm P E N)) (sym (items_shown-the_row-KArm-0 x arms)))
  enter_is node (Par' kind slot x bs) = ap (λ k. without_one k) (cost_blocks bs ∙ ap (sum_of (enter_branch P E N)) (sym (items_shown-the_row-KBlock-1 x bs)))
  enter_is node st = refl
