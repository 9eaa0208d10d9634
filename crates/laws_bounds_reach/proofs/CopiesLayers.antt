-- How often a statement uses a code, and what the loops that an event paces cost in it, one level of it open.
use Rattle.std.proofs.Common.{◌≡◌, refl, sym, ap, ◌∙◌, ◌≤◌, ℕ, ◌+◌, Bool, inl, inr, List, [], ◌∷◌, ◌++◌, arith}
use Rattle.ceu_tree.specs.declared.kernel.KArm.{KArm}
use Rattle.ceu_tree.specs.declared.kernel.KNode.{KNode}
use Rattle.ceu_tree.specs.declared.kernel.KBlock.{KBlock}
use Rattle.ceu_tree.specs.declared.kernel.KStmt.{KStmt, out-KStmt, Row_of-KArm, end_of-KArm, more_of-KArm, items-the_row-KArm, items_shown-the_row-KArm-0, Row_of-KBlock, end_of-KBlock, more_of-KBlock, items-the_row-KBlock, items_shown-the_row-KBlock-1, If', Par'}
use Rattle.ceu_tree.specs.declared.kernel.KStmt.TheOpen.{KStmt-F}
use Rattle.ceu_tree.specs.Leaf.{Layer}
use Rattle.ceu_tree.specs.Greatest.{total}
use Rattle.ceu_tree.specs.Costs.{Cost, nothing, plus, sum_of, uses, block_uses, arm_uses, arms_uses, blocks_uses, node_uses, loop_woken, woken, woken_block, woken_arm, woken_arms, woken_blocks, woken_node}
use Rattle.ceu_tree.proofs.UseLaws.{uses_of_arm}
use Rattle.ceu_tree.proofs.WokenLaws.{woken_of_arm}
use Rattle.laws_meaning_basics.specs.Shape.{among_arms, opens_part}
use Rattle.laws_bounds_steps.specs.Pays.{Within}
use Rattle.laws_bounds_steps.proofs.Cost.{is, first, second}
use Rattle.laws_bounds_reach.specs.Copies.{one_of}
use denote.Hole.Carrier

module _ (k : ℕ) where
  abbrev pub layer_uses : Layer → ℕ
  layer_uses (KStmt-F.AwaitCode c es f t) = one_of k c
  layer_uses (KStmt-F.Do t b) = block_uses k b
  layer_uses (KStmt-F.If arms last) = total (arm_uses k) arms + block_uses k last
  layer_uses (KStmt-F.Loop j b) = block_uses k b
  layer_uses (KStmt-F.Par j slot bs) = total (block_uses k) bs
  layer_uses layer = 0

  arms_row : {n : _} (r : Row_of-KArm n) → arms_uses k r ≡ total (arm_uses k) (items-the_row-KArm n r)
  unfolding uses
  arms_row end_of-KArm = refl
  arms_row (more_of-KArm a rest) = ap (λ j. arm_uses k a + j) (arms_row rest)

  blocks_row : {n : _} (r : Row_of-KBlock n) → blocks_uses k r ≡ total (block_uses k) (items-the_row-KBlock n r)
  unfolding uses
  blocks_row end_of-KBlock = refl
  blocks_row (more_of-KBlock b rest) = ap (λ j. block_uses k b + j) (blocks_row rest)

  pub uses_is : (st : KStmt) → uses k st ≡ layer_uses (out-KStmt st)
  unfolding uses out-KStmt Carrier.out
  uses_is (If' x arms last) = ap (λ j. j + block_uses k last) (arms_row arms ∙ ap (total (arm_uses k)) (sym (items_shown-the_row-KArm-0 x arms)))
  uses_is (Par' kind slot x bs) = blocks_row bs ∙ ap (total (block_uses k)) (sym (items_shown-the_row-KBlock-1 x bs))
  uses_is st = refl

  pub uses_at : (s : KNode) (layer : Layer) → out-KStmt s.stmt ≡ layer → node_uses k s ≡ layer_uses layer
  uses_at s layer e = uses_is s.stmt ∙ ap layer_uses e

  arm_used : (arms : List KArm) (b : KBlock) → among_arms arms b → block_uses k b ≤ total (arm_uses k) arms
  arm_used [] b o = absurd o
  arm_used (a ∷ arms) b (inl e) = let x = uses_of_arm k a in let y = ap (block_uses k) e in omega (arith, x, y)
  arm_used (a ∷ arms) b (inr o) = let x = arm_used arms b o in omega (arith, x)

  pub part_used : (layer : Layer) (b : KBlock) → opens_part layer b → block_uses k b ≤ layer_uses layer
  part_used (KStmt-F.Do t c) b o = let x = ap (block_uses k) o in omega (arith, x)
  part_used (KStmt-F.If arms last) b (inl o) = let x = arm_used arms b o in omega (arith, x)
  part_used (KStmt-F.If arms last) b (inr o) = let x = ap (block_uses k) o in omega (arith, x)
  part_used layer b o = elim o [ ]

  -- one statement of a list
  pub one_used : (done : List KNode) (s : KNode) (rest : List KNode) → node_uses k s ≤ total (node_uses k) (done ++ s ∷ rest)
  one_used [] s rest = omega arith
  one_used (q ∷ done) s rest = let x = one_used done s rest in omega (arith, x)

module _ (P : List Bool) (E N : List Cost) (e : ℕ) where
  abbrev pub layer_woken : Layer → Cost
  layer_woken (KStmt-F.Do t b) = woken_block P E N e b
  layer_woken (KStmt-F.If arms last) = plus (sum_of (woken_arm P E N e) arms) (woken_block P E N e last)
  layer_woken (KStmt-F.Loop k b) = plus (loop_woken P E N e k b) (woken_block P E N e b)
  layer_woken (KStmt-F.Par k slot bs) = sum_of (woken_block P E N e) bs
  layer_woken layer = nothing

  woken_arms_row : {n : _} (r : Row_of-KArm n) → woken_arms P E N e r ≡ sum_of (woken_arm P E N e) (items-the_row-KArm n r)
  unfolding woken
  woken_arms_row end_of-KArm = refl
  woken_arms_row (more_of-KArm a rest) = ap (λ j. plus (woken_arm P E N e a) j) (woken_arms_row rest)

  woken_blocks_row : {n : _} (r : Row_of-KBlock n) → woken_blocks P E N e r ≡ sum_of (woken_block P E N e) (items-the_row-KBlock n r)
  unfolding woken
  woken_blocks_row end_of-KBlock = refl
  woken_blocks_row (more_of-KBlock b rest) = ap (λ j. plus (woken_block P E N e b) j) (woken_blocks_row rest)

  pub woken_is : (st : KStmt) → woken P E N e st ≡ layer_woken (out-KStmt st)
  unfolding woken out-KStmt Carrier.out
  woken_is (If' x arms last) = ap (λ j. plus j (woken_block P E N e last)) (woken_arms_row arms ∙ ap (sum_of (woken_arm P E N e)) (sym (items_shown-the_row-KArm-0 x arms)))
  woken_is (Par' kind slot x bs) = woken_blocks_row bs ∙ ap (sum_of (woken_block P E N e)) (sym (items_shown-the_row-KBlock-1 x bs))
  woken_is st = refl

  pub woken_at : (s : KNode) (layer : Layer) → out-KStmt s.stmt ≡ layer → woken_node P E N e s ≡ layer_woken layer
  woken_at s layer q = woken_is s.stmt ∙ ap layer_woken q

  arm_woken : (arms : List KArm) (b : KBlock) → among_arms arms b → Within (woken_block P E N e b) (sum_of (woken_arm P E N e) arms)
  arm_woken [] b o = absurd o
  arm_woken (a ∷ arms) b (inl q) = first _ _ _ (is _ _ (ap (woken_block P E N e) (sym q) ∙ sym (woken_of_arm P E N e a)))
  arm_woken (a ∷ arms) b (inr o) = second _ _ _ (arm_woken arms b o)

  pub part_woken : (layer : Layer) (b : KBlock) → opens_part layer b → Within (woken_block P E N e b) (layer_woken layer)
  part_woken (KStmt-F.Do t c) b o = is _ _ (ap (woken_block P E N e) (sym o))
  part_woken (KStmt-F.If arms last) b (inl o) = first _ _ _ (arm_woken arms b o)
  part_woken (KStmt-F.If arms last) b (inr o) = second _ _ _ (is _ _ (ap (woken_block P E N e) (sym o)))
  part_woken layer b o = elim o [ ]

  pub one_woken : (done : List KNode) (s : KNode) (rest : List KNode) → Within (woken_node P E N e s) (sum_of (woken_node P E N e) (done ++ s ∷ rest))
  one_woken [] s rest = first _ _ _ (is _ _ refl)
  one_woken (q ∷ done) s rest = second _ _ _ (one_woken done s rest)
